-- The coded order: what is left of it, and where each of its lines stands.
use Rattle.std.proofs.Common.{◌≡◌, ℕ, zero, suc, ◌+◌, ◌-◌, ◌<◌, ◌≤◌, Bool, true, false, List, [], ◌∷◌, ◌++◌, length, refl, sym, ap, ◌∙◌, subst, arith, append_assoc, append-nil}
use Rattle.ffv1_plane.specs.Lines.{Line, line_at, lines_of_plane, plane_after_plane, lines_of_row, row_after_row}
use Rattle.ffv1_plane.specs.RangeSlices.{height_at, lines_of}
use Rattle.ffv1_plane.specs.Inner.RangeLines.{count_in, rows_at, IsGrown}
use Rattle.ffv1_plane.specs.Inner.Rows.{RowsRead}
use Rattle.ffv1_plane.specs.Inner.Planes.{IsFresh}
use Rattle.ffv1_plane.specs.Inner.Orders.{lists_from, turn_count, turn_length, turn_line, turn_from, turn_of, turns_from}
use Rattle.ffv1_plane.specs.Inner.InTurn.{IsNextLine, HaveGrown}
use Rattle.ffv1_plane.specs.declared.planes.PlaneSize.{PlaneSize}
use Rattle.ffv1_plane.proofs.LineRuns.{count_in-append, count_rows, count_planes, count_row, count_all_rows, grown_place, grown_none, grown_both}
use Rattle.ffv1_plane.proofs.RangeSlices.{AreBelow, orders_below, below_middle}

-- ---- what is left

-- lists that are joined step by step are the lists that are left from the first on
joined : (f g : ℕ → List Line) → ((n : ℕ) → f (suc n) ≡ f n ++ g n) → (n count : ℕ) → f n ++ lists_from g n count ≡ f (n + count)
unfolding lists_from
joined f g step n zero = append-nil (f n) ∙ ap f (let none : n ≡ n + 0 = omega arith in none)
joined f g step n (suc count) =
    sym (append_assoc (f n) (g n) (lists_from g (suc n) count)) ∙ ap (λ l. l ++ lists_from g (suc n) count) (sym (step n)) ∙ joined f g step (suc n) count
    ∙ ap f (let same : suc n + count ≡ n + suc count = omega arith in same)

from_zero : (n : ℕ) → 0 + n ≡ n
from_zero n = omega arith

plane_turn : (p n : ℕ) → turn_from false p 0 n ≡ lines_of_plane p n
unfolding lines_of_plane
plane_turn p n = joined (lines_of_plane p) (λ n. line_at p n ∷ []) (λ n. refl) 0 n ∙ ap (lines_of_plane p) (from_zero n)

row_turn : (row n : ℕ) → turn_from true row 0 n ≡ lines_of_row row n
unfolding lines_of_row
row_turn row n = joined (lines_of_row row) (λ n. line_at n row ∷ []) (λ n. refl) 0 n ∙ ap (lines_of_row row) (from_zero n)

all_turns : (is_rgb : Bool) (sizes : List PlaneSize) → lists_from (turn_of is_rgb sizes) 0 (turn_count is_rgb sizes) ≡ lines_of is_rgb sizes
unfolding row_after_row plane_after_plane
all_turns true sizes =
    joined (row_after_row (length sizes)) (turn_of true sizes) (λ n. ap (λ l. row_after_row (length sizes) n ++ l) (sym (row_turn n (length sizes)))) 0 (height_at sizes 0)
    ∙ ap (row_after_row (length sizes)) (from_zero (height_at sizes 0))
all_turns false sizes =
    joined (plane_after_plane (height_at sizes)) (turn_of false sizes)
    (λ n. ap (λ l. plane_after_plane (height_at sizes) n ++ l) (sym (plane_turn n (height_at sizes n)))) 0 (length sizes)
    ∙ ap (plane_after_plane (height_at sizes)) (from_zero (length sizes))

-- from the start of a turn on whole turns are left
turns_whole : (is_rgb : Bool) (sizes : List PlaneSize) (turn count : ℕ) → turns_from is_rgb sizes turn 0 count ≡ lists_from (turn_of is_rgb sizes) turn count
unfolding turns_from lists_from
turns_whole is_rgb sizes turn zero = refl
turns_whole is_rgb sizes turn (suc count) =
    let whole : turn_length is_rgb sizes turn - 0 ≡ turn_length is_rgb sizes turn = omega arith in
    ap (λ n. turn_from is_rgb turn 0 n ++ lists_from (turn_of is_rgb sizes) (suc turn) count) whole

pub all_left : (is_rgb : Bool) (sizes : List PlaneSize) → turns_from is_rgb sizes 0 0 (turn_count is_rgb sizes - 0) ≡ lines_of is_rgb sizes
all_left is_rgb sizes =
    let whole : turn_count is_rgb sizes - 0 ≡ turn_count is_rgb sizes = omega arith in
    ap (turns_from is_rgb sizes 0 0) whole ∙ turns_whole is_rgb sizes 0 (turn_count is_rgb sizes) ∙ all_turns is_rgb sizes

-- a line of a turn comes first ..
pub line_left : (is_rgb : Bool) (sizes : List PlaneSize) (turn within count : ℕ) → turn < count → within < turn_length is_rgb sizes turn
    → turns_from is_rgb sizes turn within (count - turn) ≡ turn_line is_rgb turn within ∷ turns_from is_rgb sizes turn (within + 1) (count - turn)
unfolding turns_from lists_from
line_left is_rgb sizes turn within count less inside = some (count - turn) (omega (arith, less))
  where
    some : (n : ℕ) → 0 < n → turns_from is_rgb sizes turn within n ≡ turn_line is_rgb turn within ∷ turns_from is_rgb sizes turn (within + 1) n
    some zero h = absurd (omega (arith, h))
    some (suc n) h =
        let is : turn_length is_rgb sizes turn - within ≡ suc (turn_length is_rgb sizes turn - (within + 1)) = omega (arith, inside) in
        let next : suc within ≡ within + 1 = omega arith in
        ap (λ k. turn_from is_rgb turn within k ++ lists_from (turn_of is_rgb sizes) (suc turn) n) is
        ∙ ap (λ w. turn_line is_rgb turn within ∷ (turn_from is_rgb turn w (turn_length is_rgb sizes turn - (within + 1)) ++ lists_from (turn_of is_rgb sizes) (suc turn) n)) next

-- .. and where none is left in it, those of the turns after it
pub turn_over : (is_rgb : Bool) (sizes : List PlaneSize) (turn within count : ℕ) → turn < count → turn_length is_rgb sizes turn ≤ within
    → turns_from is_rgb sizes turn within (count - turn) ≡ turns_from is_rgb sizes (turn + 1) 0 (count - (turn + 1))
unfolding turns_from lists_from
turn_over is_rgb sizes turn within count less over =
    let is : count - turn ≡ suc (count - (turn + 1)) = omega (arith, less) in ap (turns_from is_rgb sizes turn within) is ∙ next (count - (turn + 1))
  where
    next : (n : ℕ) → turns_from is_rgb sizes turn within (suc n) ≡ turns_from is_rgb sizes (turn + 1) 0 n
    next n =
        let is : turn_length is_rgb sizes turn - within ≡ 0 = omega (arith, over) in
        let after : suc turn ≡ turn + 1 = omega arith in
        ap (λ k. turn_from is_rgb turn within k ++ lists_from (turn_of is_rgb sizes) (suc turn) n) is ∙ ap (λ t. lists_from (turn_of is_rgb sizes) t n) after
        ∙ sym (turns_whole is_rgb sizes (turn + 1) n)

pub none_left : (is_rgb : Bool) (sizes : List PlaneSize) (turn within count : ℕ) → count ≤ turn → turns_from is_rgb sizes turn within (count - turn) ≡ []
unfolding turns_from
none_left is_rgb sizes turn within count over = let is : count - turn ≡ 0 = omega (arith, over) in ap (turns_from is_rgb sizes turn within) is

-- ---- where each line stands

-- After some lines each of others has as many of its plane before it as its row says.
pub data AreNext : List Line → List Line → Type 0 where
  none : {done : List Line} → AreNext done []
  followed : {done : List Line} {line : Line} {lines : List Line} → count_in line.plane done ≡ line.row → AreNext (done ++ line ∷ []) lines → AreNext done (line ∷ lines)

pub first_next : (done lines : List Line) (line : Line) → AreNext done (line ∷ lines) → (count_in line.plane done ≡ line.row) × AreNext (done ++ line ∷ []) lines
first_next done lines line (followed place h) = (place, h)

next_both : (done xs ys : List Line) → AreNext done xs → AreNext (done ++ xs) ys → AreNext done (xs ++ ys)
next_both done [] ys none k = subst (λ l. AreNext l ys) (append-nil done) k
next_both done (line ∷ xs) ys (followed place h) k =
    followed place (next_both (done ++ line ∷ []) xs ys h (subst (λ l. AreNext l ys) (sym (append_assoc done (line ∷ []) xs)) k))

rows_next : (done : List Line) (p n : ℕ) → count_in p done ≡ 0 → AreNext done (lines_of_plane p n)
unfolding lines_of_plane
rows_next done p zero h = none
rows_next done p (suc n) h =
    let before = count_rows p n in
    next_both done (lines_of_plane p n) (line_at p n ∷ []) (rows_next done p n h)
    (followed (count_in-append p done (lines_of_plane p n) ∙ omega (arith, h, before)) none)

planes_next : (height : ℕ → ℕ) (n : ℕ) → AreNext [] (plane_after_plane height n)
unfolding plane_after_plane
planes_next height zero = none
planes_next height (suc n) =
    next_both [] (plane_after_plane height n) (lines_of_plane n (height n)) (planes_next height n)
    (rows_next (plane_after_plane height n) n (height n) (count_planes height n n (omega arith)))

row_next : (done : List Line) (row n : ℕ) → ((p : ℕ) → p < n → count_in p done ≡ row) → AreNext done (lines_of_row row n)
unfolding lines_of_row
row_next done row zero h = none
row_next done row (suc n) h =
    let before = h n (omega arith) in let none_yet = count_row row n n (omega arith) in
    next_both done (lines_of_row row n) (line_at n row ∷ []) (row_next done row n (λ p less. h p (omega (arith, less))))
    (followed (count_in-append n done (lines_of_row row n) ∙ omega (arith, before, none_yet)) none)

all_rows_next : (count n : ℕ) → AreNext [] (row_after_row count n)
unfolding row_after_row
all_rows_next count zero = none
all_rows_next count (suc n) =
    next_both [] (row_after_row count n) (lines_of_row n count) (all_rows_next count n)
    (row_next (row_after_row count n) n count (λ p less. count_all_rows count n p less))

pub order_next : (is_rgb : Bool) (sizes : List PlaneSize) → AreNext [] (lines_of is_rgb sizes)
order_next true sizes = all_rows_next (length sizes) (height_at sizes 0)
order_next false sizes = planes_next (height_at sizes) (length sizes)

-- ---- planes that grow

pub none_grown : (planes : List RowsRead) → HaveGrown [] planes planes
unfolding count_in
none_grown planes = record { count = refl; grown = λ p. grown_none (rows_at planes p) }

pub more_grown : (xs ys : List Line) (old mid new : List RowsRead) → HaveGrown xs old mid → HaveGrown ys mid new → HaveGrown (xs ++ ys) old new
more_grown xs ys old mid new h k =
    record {
      count = k.count ∙ h.count;
      grown = λ p.
          subst (λ n. IsGrown n (rows_at old p) (rows_at new p)) (sym (count_in-append p xs ys))
          (grown_both (count_in p xs) (count_in p ys) (rows_at old p) (rows_at mid p) (rows_at new p) (h.grown p) (k.grown p));
    }

-- where new planes have grown by the lines before one, that one is next
pub is_next : (is_rgb : Bool) (sizes : List PlaneSize) (done later : List Line) (line : Line) (old new : List RowsRead)
    → lines_of is_rgb sizes ≡ done ++ line ∷ later → length sizes ≤ length old → ((p : ℕ) → p < length sizes → IsFresh (rows_at old p))
    → HaveGrown done old new → count_in line.plane done ≡ line.row → IsNextLine new line
is_next is_rgb sizes done later line old new order enough fresh h place =
    let inside : line.plane < length sizes = below_middle (length sizes) done later line (subst (AreBelow (length sizes)) order (orders_below is_rgb sizes)) in
    let grown = h.grown line.plane in
    let before = fresh line.plane inside in
    let count = h.count in
    record {
      inside = omega (arith, inside, enough, count);
      ended = grown.ended before.ended;
      place = grown_place (count_in line.plane done) line.row (rows_at old line.plane) (rows_at new line.plane) grown before.empty place;
    }
