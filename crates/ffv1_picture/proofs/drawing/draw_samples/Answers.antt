use Rattle.std.proofs.Common.{◌≡◌, ◌+◌, ◌-◌, ◌*◌, ◌≤◌, length, get_or, drop, ap, ◌∙◌, subst, arith, rules, ℕ, ◌<◌}
use Rattle.std.proofs.lemmas.List.{length-take-le, length-drop, get_or-take, get_or-drop}
use Rattle.std.proofs.Math.Nat.{mul-le-mul_right}
use borrow.Rule.Slice.PartMut.{put_mid}
use Rattle.ffv1_picture.specs.Drawn.{Draws}
use Rattle.ffv1_picture.proofs.Drawings.{first_rows, row_drawn}
use Rattle.ffv1_picture.proofs.drawing.draw_samples.Goals as goal

-- a row ends within the rows of its tile, of which the first is y
row_ends : (y h row width : ℕ) → row < h → (y + row + 1) * width ≤ (y + h) * width
row_ends y h row width less = mul-le-mul_right width (omega arith)

-- ---- in the plane

pub overflow_mul-to : goal.overflow_mul-to
overflow_mul-to g c =
    let r = c.args.rect in
    omega (arith, row_ends r.y r.h c.loop-row.row c.args.width (omega arith), c.requires.inside.in_height, c.requires.inside.in_width)

pub overflow_add-to-in-loop-row : goal.overflow_add-to-in-loop-row
overflow_add-to-in-loop-row g c =
    let r = c.args.rect in
    omega (arith, row_ends r.y r.h c.loop-row.row c.args.width (omega arith), c.requires.inside.in_height, c.requires.inside.in_width)

pub overflow_add-to-in-loop-row-2 : goal.overflow_add-to-in-loop-row-2
overflow_add-to-in-loop-row-2 g c =
    let r = c.args.rect in
    omega (arith, row_ends r.y r.h c.loop-row.row c.args.width (omega arith), c.requires.inside.in_height, c.requires.inside.in_width)

pub slice_bounds-copy_from_slice-end : goal.slice_bounds-copy_from_slice-end
slice_bounds-copy_from_slice-end g c =
    let r = c.args.rect in
    omega (arith, row_ends r.y r.h c.loop-row.row c.args.width (omega arith), c.requires.inside.in_height, c.requires.inside.in_width)

pub offset_bounds-plane-to : goal.offset_bounds-plane-to
offset_bounds-plane-to g c =
    let r = c.args.rect in
    let within : (r.y + c.loop-row.row) * c.args.width + r.x ≤ length c.loop-row.plane =
    omega (arith, row_ends r.y r.h c.loop-row.row c.args.width (omega arith), c.requires.inside.in_height, c.requires.inside.in_width, c.loop-row.auto.plane) in
    search (rules, within)

-- ---- in the tile's own samples

pub overflow_mul-from : goal.overflow_mul-from
overflow_mul-from g c =
    let r = c.args.rect in
    omega (arith, row_ends 0 r.h c.loop-row.row r.w (omega arith), c.requires.samples)

pub overflow_add-from : goal.overflow_add-from
overflow_add-from g c =
    let r = c.args.rect in
    omega (arith, row_ends 0 r.h c.loop-row.row r.w (omega arith), c.requires.samples)

pub slice_bounds-copy_from_slice-end-in-loop-row : goal.slice_bounds-copy_from_slice-end-in-loop-row
slice_bounds-copy_from_slice-end-in-loop-row g c =
    let r = c.args.rect in
    omega (arith, row_ends 0 r.h c.loop-row.row r.w (omega arith), c.requires.samples)

-- ---- a row drawn

pub loop-row-preserved : goal.loop-row-preserved
loop-row-preserved g c =
    let r = c.args.rect in
    let n = c.loop-row.row in
    let width = c.args.width in
    let samples = c.args.samples.now in
    let mid = c.loop-row.plane in
    let link = c.copy_from_slice.new.self in
    let to = (r.y + n) * width + r.x in
    let from = n * r.w in
    let read : from + r.w ≤ length samples = omega (arith, row_ends 0 r.h n r.w (omega arith), c.requires.samples) in
    let of_samples = c.copy_from_slice.ensures.after in
    let long : length link ≡ r.w = ap length of_samples ∙ length-take-le (from + r.w - from) (drop from samples) (omega (arith, length-drop from samples))
    ∙ (let e : from + r.w - from ≡ r.w = omega arith in e) in
    let P : ℕ → Type 0 = λ k. Draws width (first_rows r (n + 1)) samples c.args.plane.now (put_mid to k mid link) in
    subst P {x = r.w} {y = to + r.w - to} (omega arith)
    (row_drawn width r n samples c.args.plane.now mid link c.requires.inside.in_width
    (omega (arith, row_ends r.y r.h n width (omega arith), c.requires.inside.in_height))
    c.loop-row.invariant long
    (λ i d lt. ap (λ xs. get_or xs i d) of_samples ∙ get_or-take (from + r.w - from) (drop from samples) i d (omega arith) ∙ get_or-drop from samples i d))

pub returns : goal.returns
returns g c =
    let r = c.args.rect in
    let all : c.loop-row.row ≡ r.h = omega arith in
    subst (λ n. Draws c.args.width (first_rows r n) c.args.samples.now c.args.plane.now c.loop-row.plane) all c.loop-row.invariant
