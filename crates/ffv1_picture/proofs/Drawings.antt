-- Rows of samples drawn onto a plane, one after the other.
use Rattle.std.proofs.Common.{◌≡◌, ℕ, zero, suc, ◌+◌, ◌-◌, ◌*◌, ◌/◌, ◌^◌, ◌<◌, ◌≤◌, ◌⊎◌, true, false, ◌&&◌, cond, nat_le, nat_lt, List, [], ◌++◌, length, map, get_or, get_or-set_same, get_or-set_other, take, drop, Vec, Global, sym, ap, subst, ◌∙◌, inl, inr, arith}
use Rattle.std.proofs.Math.ListN.{set}
use Rattle.std.specs.Int.{div_ceil}
use Rattle.std.proofs.lemmas.Grind.{div_ceil_times}
use Rattle.std.proofs.lemmas.Nat.{div-add-mod', pow_pos}
use Rattle.std.proofs.lemmas.Bool.{ltb-true, lt-ltb, le-ltb, le-leb, lt-leb, cases_lt, cases_order, and_from, and_right}
use Rattle.std.proofs.lemmas.List.{length-take-le, length-drop, get_or-take, get_or-drop, get_or_append_left, get_or-append_right, get_or-map, length-append, length-set}
use Rattle.std.proofs.Math.Nat.{mul-le-mul_right, lt_of_mul-lt-mul_right}
use Rattle.std.specs.Cmp.{both_ways}
use Rattle.ffv1_range.specs.declared.grid.TileRect.{TileRect}
use Rattle.ffv1_range.specs.Tiles.{GridValue, IsGrid, tile_count, tile_rect, plane_rect, frame_rect}
use Rattle.ffv1_range.proofs.TileLaws.{each_tile}
use Rattle.ffv1_picture.specs.WholePicture.{Planes, covers}
use Rattle.ffv1_picture.specs.Drawn.{Draws, FitsIn}
use Rattle.ffv1_picture.specs.Inner.Drawing.{area, plane_at}

-- the first rows of a rectangle
abbrev pub first_rows : TileRect → ℕ → TileRect
first_rows r rows = record { x = r.x; y = r.y; w = r.w; h = rows }

-- ---- items of a list in a row that are overwritten

module _ {T : Type 0} (a w : ℕ) (old link : List T) (fits : a + w ≤ length old) (long : length link ≡ w) where
  abbrev with_link : List T
  with_link = take a old ++ (link ++ drop w (drop a old))

  length-with_link : length with_link ≡ length old
  length-with_link =
      omega (
        arith,
        length-append (take a old) (link ++ drop w (drop a old)),
        length-append link (drop w (drop a old)),
        length-take-le a old
            (omega arith),
        length-drop w (drop a old),
        length-drop a old,
        long,
      )

  before_link : (k : ℕ) (d : T) → k < a → get_or with_link k d ≡ get_or old k d
  before_link k d lt =
      get_or_append_left (take a old) (link ++ drop w (drop a old)) d k (omega (arith, length-take-le a old (omega arith)))
      ∙ get_or-take a old k d lt

  from_start : (k : ℕ) (d : T) → a ≤ k → get_or with_link k d ≡ get_or (link ++ drop w (drop a old)) (k - a) d
  from_start k d le = get_or-append_right (take a old) (link ++ drop w (drop a old)) a k d (length-take-le a old (omega arith)) le

  in_link : (k : ℕ) (d : T) → a ≤ k → k < a + w → get_or with_link k d ≡ get_or link (k - a) d
  in_link k d le lt = from_start k d le ∙ get_or_append_left link (drop w (drop a old)) d (k - a) (omega (arith, long))

  after_link : (k : ℕ) (d : T) → a + w ≤ k → get_or with_link k d ≡ get_or old k d
  after_link k d le =
      from_start k d (omega arith) ∙ get_or-append_right link (drop w (drop a old)) w (k - a) d long (omega arith)
      ∙ get_or-drop w (drop a old) (k - a - w) d ∙ get_or-drop a old (w + (k - a - w)) d
      ∙ ap (λ i. get_or old i d) {x = a + (w + (k - a - w))} {y = k} (omega arith)

-- ---- which places the rows cover

covers_here : (r : TileRect) (x y : ℕ) → r.x ≤ x → x < r.x + r.w → r.y ≤ y → y < r.y + r.h → covers r x y ≡ true
covers_here r x y left right above below =
    and_from _ _ (and_from _ _ (le-leb r.x x left) (lt-ltb x (r.x + r.w) right)) (and_from _ _ (le-leb r.y y above) (lt-ltb y (r.y + r.h) below))

left_of : (r : TileRect) (x y : ℕ) → x < r.x → covers r x y ≡ false
left_of r x y out = ap (λ b. (b && nat_lt x (r.x + r.w)) && (nat_le r.y y && nat_lt y (r.y + r.h))) (lt-leb r.x x out)

right_of : (r : TileRect) (x y : ℕ) → r.x + r.w ≤ x → covers r x y ≡ false
right_of r x y out =
    ap (λ b. b && (nat_le r.y y && nat_lt y (r.y + r.h))) (and_right (nat_le r.x x) _ (le-ltb x (r.x + r.w) out))

-- one row more covers the same places of the other rows
other_row : (r : TileRect) (n x y : ℕ) → (y < r.y + n) ⊎ (r.y + n < y) → covers (first_rows r n) x y ≡ covers (first_rows r (n + 1)) x y
other_row r n x y other =
    ap (λ b. (nat_le r.x x && nat_lt x (r.x + r.w)) && (nat_le r.y y && b)) (both_ways (nat_lt y (r.y + n)) (nat_lt y (r.y + (n + 1)))
    (λ below. lt-ltb y (r.y + (n + 1)) (let lt = ltb-true y (r.y + n) below in omega arith))
    (λ below. lt-ltb y (r.y + n) (let lt = ltb-true y (r.y + (n + 1)) below in omega arith)))

-- ---- one row more

module _ {T : Type 0} (width : ℕ) (r : TileRect) (n : ℕ) (samples old mid link : List T) (in_width : r.x + r.w ≤ width)
    (in_height : (r.y + n) * width + width ≤ length old) (drawn : Draws width (first_rows r n) samples old mid)
    (long : length link ≡ r.w) (is : (i : ℕ) (d : T) → i < r.w → get_or link i d ≡ get_or samples (n * r.w + i) d) where
  abbrev pub from : ℕ
  from = (r.y + n) * width + r.x

  fits : from + r.w ≤ length mid
  fits = omega (arith, drawn.same_length, in_height, in_width)

  abbrev next : List T
  next = with_link from r.w mid link fits long

  abbrev sample_at : ℕ → ℕ → T → T
  sample_at x y d = get_or samples ((y - r.y) * r.w + (x - r.x)) d

  abbrev Shows : ℕ → ℕ → T → Type 0
  Shows x y d = get_or next (y * width + x) d ≡ cond (covers (first_rows r (n + 1)) x y) (sample_at x y d) (get_or old (y * width + x) d)

  as_before : (x y : ℕ) (d : T) → x < width → y * width + x < length old → get_or next (y * width + x) d ≡ get_or mid (y * width + x) d
      → covers (first_rows r n) x y ≡ covers (first_rows r (n + 1)) x y → Shows x y d
  as_before x y d inside within kept same =
      kept ∙ drawn.each x y d inside within
      ∙ ap (λ b. cond b (sample_at x y d) (get_or old (y * width + x) d)) same

  in_row : (x y : ℕ) (d : T) → x < width → y * width + x < length old → y ≡ r.y + n → Shows x y d
  in_row x y d inside within same = elim (cases_lt x r.x) [
    | inl left ↦
        as_before x y d inside within (before_link from r.w mid link fits long (y * width + x) d (rw same (omega arith)))
        (left_of (first_rows r n) x y left ∙ sym (left_of (first_rows r (n + 1)) x y left))
    | inr right ↦ elim (cases_lt x (r.x + r.w)) [
      | inl here ↦
          in_link from r.w mid link fits long (y * width + x) d (rw same (omega arith)) (rw same (omega arith))
          ∙ ap (λ i. get_or link i d) {x = y * width + x - from} {y = x - r.x} (rw same (omega arith))
          ∙ is (x - r.x) d (omega arith)
          ∙ ap (λ i. get_or samples (i * r.w + (x - r.x)) d) {x = n} {y = y - r.y} (omega arith)
          ∙ sym (ap (λ b. cond b (sample_at x y d) (get_or old (y * width + x) d))
          (covers_here (first_rows r (n + 1)) x y right here (omega arith) (omega arith)))
      | inr later ↦
          as_before x y d inside within (after_link from r.w mid link fits long (y * width + x) d (rw same (omega arith)))
          (right_of (first_rows r n) x y later ∙ sym (right_of (first_rows r (n + 1)) x y later))
    ]
  ]

  pub row_drawn : Draws width (first_rows r (n + 1)) samples old (take from mid ++ (link ++ drop r.w (drop from mid)))
  row_drawn = record {
    same_length = length-with_link from r.w mid link fits long ∙ drawn.same_length;
    each = λ x y d inside within. elim (cases_order y (r.y + n)) [
      | inl same ↦ in_row x y d inside within same
      | inr (inl above) ↦
          as_before x y d inside within (before_link from r.w mid link fits long (y * width + x) d
          (omega (arith, let up : y + 1 ≤ r.y + n = omega arith in mul-le-mul_right width up)))
          (other_row r n x y (inl above))
      | inr (inr below) ↦
          as_before x y d inside within (after_link from r.w mid link fits long (y * width + x) d
          (omega (arith, let up : r.y + n + 1 ≤ y = omega arith in mul-le-mul_right width up)))
          (other_row r n x y (inr below))
    ];
  }

-- ---- one plane more

-- drawn alike
pub draws_same : {T : Type 0} (w w' : ℕ) (r r' : TileRect) (samples samples' old old' new : List T) → w ≡ w' → r ≡ r' → samples ≡ samples' → old ≡ old'
    → Draws w r samples old new → Draws w' r' samples' old' new
draws_same {T} w w' r r' samples samples' old old' new same_w same_r same_s same_o drawn =
    let A : ℕ → Type 0 = λ x. Draws x r' samples' old' new in
    let B : TileRect → Type 0 = λ x. Draws w x samples' old' new in
    let C : List T → Type 0 = λ x. Draws w r x old' new in
    let D : List T → Type 0 = λ x. Draws w r samples x new in
    subst A same_w (subst B same_r (subst C same_s (subst D same_o drawn)))

pub fits_same : (w w' n n' : ℕ) (r r' : TileRect) → w ≡ w' → n ≡ n' → r ≡ r' → FitsIn w n r → FitsIn w' n' r'
fits_same w w' n n' r r' same_w same_n same_r fits =
    let A : ℕ → Type 0 = λ x. FitsIn x n' r' in
    let B : ℕ → Type 0 = λ x. FitsIn w x r' in
    let C : TileRect → Type 0 = λ x. FitsIn w n x in
    subst A same_w (subst B same_n (subst C same_r fits))

-- The first planes have those of a picture drawn onto them, and the others are as they were. Each plane has a width, and the picture a place
-- in it.
pub record DrawsPlanes (width : ℕ → ℕ) (place : ℕ → TileRect) (planes : ℕ) (picture old new : Planes) : Type 0 where
  pub same_count : length new ≡ length old
  pub each : (plane : ℕ) → plane < planes → Draws (width plane) (place plane) (plane_at picture plane) (plane_at old plane) (plane_at new plane)
  pub others : (plane : ℕ) → planes ≤ plane → plane_at new plane ≡ plane_at old plane

module _ (width : ℕ → ℕ) (place : ℕ → TileRect) (n : ℕ) (picture old mid : Planes) (samples : List ℕ) (before : DrawsPlanes width place n picture old mid)
    (lt : n < length mid) (drawn : Draws (width n) (place n) (plane_at picture n) (plane_at mid n) samples) where
  pub plane_drawn : DrawsPlanes width place (n + 1) picture old (set mid n samples)
  plane_drawn = record {
    same_count = length-set mid n samples ∙ before.same_count;
    each = λ plane below. elim (cases_order plane n) [
      | inl same ↦ at_n plane same
      | inr (inl less) ↦ rw (get_or-set_other mid n plane samples [] (λ e. omega arith)) (before.each plane less)
      | inr (inr more) ↦ absurd (omega arith)
    ];
    others = λ plane above. get_or-set_other mid n plane samples [] (λ e. omega arith) ∙ before.others plane (omega arith);
  }
    where
      at_n : (plane : ℕ) → plane ≡ n → Draws (width plane) (place plane) (plane_at picture plane) (plane_at old plane) (plane_at (set mid n samples) plane)
      at_n plane same =
          let P : ℕ → Type 0 = λ p. Draws (width p) (place p) (plane_at picture p) (plane_at old p) (plane_at (set mid n samples) p) in
          subst P (sym same)
          (rw (get_or-set_same mid n samples [] lt, ← (before.others n (omega arith))) drawn)

abbrev pub items_of : Vec ℕ Global → List ℕ
items_of v = v.items

-- a plane that was read by its place
pub read_plane : (planes : List (Vec ℕ Global)) (n : ℕ) (v : Vec ℕ Global) → n < length planes → v ≡ get_or planes n v → plane_at (map items_of planes) n ≡ v.items
read_plane planes n v lt is = get_or-map items_of planes n v [] lt ∙ ap items_of (sym is)

-- ---- where a tile lies in a plane

pub ceil_fits : (k a b n : ℕ) → 0 < k → a + b ≤ n → a / k + div_ceil b k ≤ div_ceil n k
ceil_fits k a b n some fits =
    let up = div_ceil_times n k some in
    let over = div_ceil_times b k some in
    let down : a / k * k ≤ a = omega (arith, div-add-mod' a k) in
    let below : (a / k + div_ceil b k) * k < (div_ceil n k + 1) * k = omega (arith, up.0, over.1, down) in
    let less : a / k + div_ceil b k < div_ceil n k + 1 = lt_of_mul-lt-mul_right k below in
    omega arith

module _ (g : GridValue) (is_grid : IsGrid g) (tile : ℕ) (in_grid : tile < tile_count g) where
  pub rect_fits : (plane : ℕ) → FitsIn (frame_rect g plane).w (area (frame_rect g plane)) (plane_rect g tile plane)
  rect_fits zero =
      let inside = each_tile g is_grid tile in_grid in
      record { in_width = inside.in_width; in_height = omega (arith, mul-le-mul_right g.width inside.in_height) }
  rect_fits (suc plane) =
      let inside = each_tile g is_grid tile in_grid in
      let r = tile_rect g tile in
      let low = ceil_fits (2 ^ g.shift_v) r.y r.h g.height (pow_pos g.shift_v) inside.in_height in
      record {
        in_width = ceil_fits (2 ^ g.shift_h) r.x r.w g.width (pow_pos g.shift_h) inside.in_width;
        in_height = omega (arith, mul-le-mul_right (div_ceil g.width (2 ^ g.shift_h)) low);
      }
