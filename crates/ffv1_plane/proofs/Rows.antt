-- The lines of a reader: their cells are the samples about the next one, and a row further they are so again.
use Rattle.std.proofs.Common.{◌≡◌, ℕ, zero, suc, ◌+◌, ◌-◌, ◌*◌, ◌/◌, ◌%◌, ◌<◌, ◌≤◌, ◌≢◌, false, eqb, min, List, [], ◌∷◌, ◌++◌, length, take, drop, get_or, set, replicate, refl, sym, ap, ◌∙◌, append_assoc, arith, inl, inr, ⊎_elim, length-append, get_or-set_other, get_or-set_same, ◌^◌}
use Rattle.std.proofs.Math.Seq.{get_or-append_right}
use Rattle.std.proofs.lemmas.Bool.{cases_lt, lt-ltb, le-ltb}
use Rattle.std.proofs.lemmas.Nat.{div-add-mod', div-mul-add, mod-mul-add, pow_pos}
use Rattle.std.proofs.lemmas.List.{get_or_append_left, get_or-take, get_or-drop, length-take-le, length-drop, length-set, append-nil, drop-set-add, take_more_set, length-replicate}
use Rattle.ffv1_rice.specs.States.{IsCodedDepth}
use Rattle.ffv1_bits.specs.Limits.{greatest_side}
use Rattle.ffv1_plane.specs.Samples.{sample_inside, sample_at, neighbours_at}
use Rattle.ffv1_plane.specs.Inner.Rows.{AreCellsOf, AreNearLines, samples_so_far}
use Rattle.ffv1_plane.proofs.Causal.{at_same}
use Rattle.ffv1_plane.proofs.Halting.{small_push}
use Rattle.ffv1_plane.proofs.Wholes.{get_or-zeros}

-- ---- how many samples there are

part_long : (w x : ℕ) (line : List ℕ) → length line ≡ w + 3 → x ≤ w → length (take x (drop 2 line)) ≡ x
part_long w x line long within = length-take-le x (drop 2 line) (omega (arith, length-drop 2 line))

pub count_is : (depth w x : ℕ) (rows line above far : List ℕ) → AreNearLines depth w x rows line above far → length (samples_so_far x rows line) ≡ length rows + x
count_is depth w x rows line above far h = omega (arith, length-append rows (take x (drop 2 line)), part_long w x line h.line_long h.within)

rows_are : (w n : ℕ) → n % w ≡ 0 → n ≡ n / w * w
rows_are w n whole = omega (arith, div-add-mod' n w)

module _ (depth w x : ℕ) (rows line above far : List ℕ) (h : AreNearLines depth w x rows line above far) where
  pub column_is : x < w → length (samples_so_far x rows line) % w ≡ x
  column_is less =
      let e : length (samples_so_far x rows line) ≡ length rows / w * w + x = count_is depth w x rows line above far h
      ∙ ap (λ n. n + x) (rows_are w (length rows) h.whole) in
      ap (λ n. n % w) e ∙ mod-mul-add (length rows / w) w x less

  row_is : x < w → length (samples_so_far x rows line) / w ≡ length rows / w
  row_is less =
      let e : length (samples_so_far x rows line) ≡ length rows / w * w + x = count_is depth w x rows line above far h
      ∙ ap (λ n. n + x) (rows_are w (length rows) h.whole) in
      ap (λ n. n / w) e ∙ div-mul-add (length rows / w) w x less

  -- ---- the cells of the lines

  -- after the rows that are ended, samples change nothing above
  above_stays : (part : List ℕ) (column row : ℕ) → row ≤ length rows / w + 1 → sample_at w rows column row ≡ sample_at w (rows ++ part) column row
  above_stays part column row high = at_same w (length rows) h.some rows (rows ++ part)
      (λ j less. sym (get_or_append_left rows part 0 j less)) column row (inl high)

  border_stays : (part : List ℕ) (column : ℕ) → column < 2 → sample_at w rows column (length rows / w + 2) ≡ sample_at w (rows ++ part) column
      (length rows / w + 2)
  border_stays part column less =
      at_same w (length rows) h.some rows (rows ++ part) (λ j inside. sym (get_or_append_left rows part 0 j inside)) column (length rows / w + 2)
      (inr (refl, let zero_is = h.whole in omega arith))

  -- a cell of the row that is read
  cell_is : (column : ℕ) → 2 ≤ column → column < x + 2 → get_or line column 0 ≡ sample_at w (samples_so_far x rows line) column (length rows / w + 2)
  unfolding sample_at sample_inside
  cell_is column two less =
      let no : eqb column 0 ≡ false = grind arith in
      let nor : eqb column 1 ≡ false = grind arith in
      let stays : min column (w + 1) ≡ column = (let within = h.within in omega arith) in
      let row : length rows / w + 2 - 2 ≡ length rows / w = omega arith in
      let start : (length rows / w + 2 - 2) * w ≡ length rows = ap (λ k. k * w) row ∙ sym (rows_are w (length rows) h.whole) in
      let place : (length rows / w + 2 - 2) * w + (column - 2) ≡ length rows + (column - 2) = ap (λ k. k + (column - 2)) start in
      let later : get_or (rows ++ take x (drop 2 line)) (length rows + (column - 2)) 0 ≡ get_or (take x (drop 2 line)) (column - 2) 0 =
      get_or-append_right rows (take x (drop 2 line)) (length rows + (column - 2)) 0 (omega arith)
      ∙ ap (λ i. get_or (take x (drop 2 line)) i 0) (let e : length rows + (column - 2) - length rows ≡ column - 2 = omega arith in e) in
      let cell : get_or (take x (drop 2 line)) (column - 2) 0 ≡ get_or line column 0 =
      get_or-take x (drop 2 line) (column - 2) 0 (omega arith) ∙ get_or-drop 2 line (column - 2) 0
      ∙ ap (λ i. get_or line i 0) (let e : 2 + (column - 2) ≡ column = omega arith in e) in
      rw (no, nor, stays) (rw (le-ltb (length rows / w + 2) 2 (omega arith))
      (sym cell ∙ sym later ∙ ap (λ i. get_or (rows ++ take x (drop 2 line)) i 0) (sym place)))

  line_is : (column : ℕ) → column < x + 2 → get_or line column 0 ≡ sample_at w (samples_so_far x rows line) column (length rows / w + 2)
  line_is column less = ⊎_elim
      (λ border. h.borders column border ∙ border_stays (take x (drop 2 line)) column border)
      (λ inside. cell_is column inside less)
      (cases_lt column 2)

  -- the cells about the next sample are its neighbours
  pub near_is : x < w → record {
    left = get_or line (x + 1) 0;
    top = get_or above (x + 2) 0;
    top_left = get_or above (x + 1) 0;
    top_right = get_or above (x + 3) 0;
    left_of_left = get_or line x 0;
    top_of_top = get_or far (x + 2) 0;
  }
      ≡ neighbours_at w (samples_so_far x rows line) (length (samples_so_far x rows line))
  unfolding neighbours_at
  near_is less =
      let part = take x (drop 2 line) in
      let left = line_is (x + 1) (omega arith) in
      let left_of_left = line_is x (omega arith) in
      let top = h.is_above (x + 2) (omega arith) ∙ above_stays part (x + 2) (length rows / w + 1) (omega arith) in
      let top_left = h.is_above (x + 1) (omega arith) ∙ above_stays part (x + 1) (length rows / w + 1) (omega arith) in
      let top_right = h.is_above (x + 3) (omega arith) ∙ above_stays part (x + 3) (length rows / w + 1) (omega arith) in
      let top_of_top = h.is_far_above (x + 2) (omega arith) ∙ above_stays part (x + 2) (length rows / w) (omega arith) in
      rw (row_is less, column_is less) cc

-- ---- one sample further

pub push_is : (depth w x : ℕ) (rows line above far : List ℕ) (v : ℕ) → AreNearLines depth w x rows line above far → x < w
    → samples_so_far (x + 1) rows (set line (x + 2) v) ≡ samples_so_far x rows line ++ v ∷ []
push_is depth w x rows line above far v h less =
    let long = h.line_long in
    let inside : x < length (drop 2 line) = omega (arith, length-drop 2 line) in
    let place : x + 2 ≡ 2 + x = omega arith in
    let cells : drop 2 (set line (x + 2) v) ≡ set (drop 2 line) x v = ap (λ i. drop 2 (set line i v)) place ∙ drop-set-add 2 line x v in
    ap (λ l. rows ++ take (x + 1) l) cells ∙ ap (λ l. rows ++ l) (take_more_set (drop 2 line) x v inside)
    ∙ sym (append_assoc rows (take x (drop 2 line)) (v ∷ []))

pub pushed : (depth w x : ℕ) (rows line above far : List ℕ) (v : ℕ) → AreNearLines depth w x rows line above far → x < w → v < 2 ^ depth
    → AreNearLines depth w (x + 1) rows (set line (x + 2) v) above far
pushed depth w x rows line above far v h less small = record {
  deep = h.deep;
  some = h.some;
  wide = h.wide;
  within = omega arith;
  whole = h.whole;
  small = λ s. let e = ap (λ l. get_or l s 0) (push_is depth w x rows line above far v h less) in
      let b = small_push depth (samples_so_far x rows line) v h.small small s in omega (arith, e, b);
  line_long = length-set line (x + 2) v ∙ h.line_long;
  above_long = h.above_long;
  far_above_long = h.far_above_long;
  borders = λ column less. let other : column ≢ x + 2 = omega arith in get_or-set_other line (x + 2) column v 0 other ∙ h.borders column less;
  is_above = h.is_above;
  is_far_above = h.is_far_above;
}

-- it is the one to the left of the next
pub push_left : (depth w x : ℕ) (rows line above far : List ℕ) (v : ℕ) → AreNearLines depth w x rows line above far → x < w → v < 2 ^ depth → x + 1 < w
    → v ≡ (neighbours_at w (samples_so_far (x + 1) rows (set line (x + 2) v)) (length (samples_so_far (x + 1) rows (set line (x + 2) v)))).left
push_left depth w x rows line above far v h less small further =
    let about = near_is depth w (x + 1) rows (set line (x + 2) v) above far (pushed depth w x rows line above far v h less small) further in
    let place : x + 1 + 1 ≡ x + 2 = omega arith in
    sym (get_or-set_same line (x + 2) v 0 (let long = h.line_long in omega arith))
    ∙ ap (λ i. get_or (set line (x + 2) v) i 0) (sym place) ∙ ap (λ near. near.left) about

-- ---- one row further

-- after the last column of a row stands its last sample
right_border : (w row : ℕ) (xs : List ℕ) → 1 ≤ w → sample_at w xs (w + 1) row ≡ sample_at w xs (w + 2) row
unfolding sample_at
right_border w row xs some =
    let a : eqb (w + 1) 0 ≡ false = grind arith in
    let b : eqb (w + 1) 1 ≡ false = grind arith in
    let c : eqb (w + 2) 0 ≡ false = grind arith in
    let d : eqb (w + 2) 1 ≡ false = grind arith in
    let e : min (w + 1) (w + 1) ≡ w + 1 = omega arith in
    let f : min (w + 2) (w + 1) ≡ w + 1 = omega arith in
    rw (a, b, c, d, e, f) refl

-- before a row stands the first sample of the row above, and nothing before that
left_border : (w row : ℕ) (xs : List ℕ) → 1 ≤ w → sample_at w xs 2 row ≡ sample_at w xs 1 (row + 1)
unfolding sample_at
left_border w row xs some =
    let e : min 2 (w + 1) ≡ 2 = omega arith in
    let f : row + 1 - 1 ≡ row = omega arith in
    rw (e, f) refl

far_border : (w row other : ℕ) (xs ys : List ℕ) → sample_at w xs 0 row ≡ sample_at w ys 0 other
unfolding sample_at
far_border w row other xs ys = refl

module _ (depth w : ℕ) (rows line above far : List ℕ) (h : AreNearLines depth w w rows line above far) (more moved : List ℕ) (more_is : more ≡ samples_so_far w rows line)
    (moved_is : moved ≡ set line (w + 2) (get_or line (w + 1) 0)) where
  long_more : length more ≡ (length rows / w + 1) * w + 0
  long_more = omega (arith, ap length more_is, count_is depth w w rows line above far h, rows_are w (length rows) h.whole)

  row_more : length more / w ≡ length rows / w + 1
  row_more = ap (λ n. n / w) long_more ∙ div-mul-add (length rows / w + 1) w 0 h.some

  -- the row that was read, with its border
  moved_row : AreCellsOf w more (length rows / w + 2) moved
  moved_row column less = ⊎_elim
      (λ inside.
      let other : column ≢ w + 2 = omega arith in
      ap (λ l. get_or l column 0) moved_is ∙ get_or-set_other line (w + 2) column _ 0 other ∙ line_is depth w w rows line above far h column inside
      ∙ ap (λ l. sample_at w l column (length rows / w + 2)) (sym more_is))
      (λ last.
      let is : column ≡ w + 2 = omega arith in
      let there : w + 2 < length line = (let long = h.line_long in omega arith) in
      let border : get_or line (w + 1) 0 ≡ sample_at w more (w + 2) (length rows / w + 2) =
      line_is depth w w rows line above far h (w + 1) (omega arith) ∙ ap (λ l. sample_at w l (w + 1) (length rows / w + 2)) (sym more_is)
      ∙ right_border w (length rows / w + 2) more h.some in
      ap (λ l. get_or l column 0) moved_is ∙ ap (λ i. get_or (set line (w + 2) (get_or line (w + 1) 0)) i 0) is ∙ get_or-set_same line (w + 2) _ 0 there
      ∙ border ∙ ap (λ i. sample_at w more i (length rows / w + 2)) (sym is))
      (cases_lt column (w + 2))

  pub rolled : AreNearLines depth w 0 more (set far 1 (get_or moved 2 0)) moved above
  rolled = record {
    deep = h.deep;
    some = h.some;
    wide = h.wide;
    within = omega arith;
    whole = ap (λ n. n % w) long_more ∙ mod-mul-add (length rows / w + 1) w 0 h.some;
    small = λ s. let e = ap (λ l. get_or l s 0) (append-nil more ∙ more_is) in let b = h.small s in omega (arith, e, b);
    line_long = length-set far 1 _ ∙ h.far_above_long;
    above_long = ap length moved_is ∙ length-set line (w + 2) _ ∙ h.line_long;
    far_above_long = h.above_long;
    borders = λ column less. ⊎_elim
        (λ first.
        let is : column ≡ 0 = omega arith in
        let other : column ≢ 1 = omega arith in
        get_or-set_other far 1 column _ 0 other ∙ h.is_far_above column (omega arith)
        ∙ ap (λ i. sample_at w rows i (length rows / w)) is ∙ far_border w (length rows / w) (length more / w + 2) rows more
        ∙ ap (λ i. sample_at w more i (length more / w + 2)) (sym is))
        (λ second.
        let is : column ≡ 1 = omega arith in
        let there : 1 < length far = (let long = h.far_above_long in omega arith) in
        let row : length rows / w + 2 + 1 ≡ length more / w + 2 = omega (arith, row_more) in
        ap (λ i. get_or (set far 1 (get_or moved 2 0)) i 0) is ∙ get_or-set_same far 1 _ 0 there ∙ moved_row 2 (omega arith)
        ∙ left_border w (length rows / w + 2) more h.some
        ∙ ap (λ r. sample_at w more 1 r) row ∙ ap (λ i. sample_at w more i (length more / w + 2)) (sym is))
        (cases_lt column 1);
    is_above = λ column less. let row : length rows / w + 2 ≡ length more / w + 1 = omega (arith, row_more) in moved_row column less
        ∙ ap (λ r. sample_at w more column r) row;
    is_far_above = λ column less.
        h.is_above column less ∙ above_stays depth w w rows line above far h (take w (drop 2 line)) column (length rows / w + 1) (omega arith)
        ∙ ap (λ l. sample_at w l column (length rows / w + 1)) (sym more_is)
        ∙ ap (λ r. sample_at w more column r) (sym row_more);
  }

-- ---- the first row

-- above a plane all is 0
above_plane : (w column row : ℕ) → row < 2 → sample_at w [] column row ≡ 0
unfolding sample_at sample_inside
above_plane w zero row less = refl
above_plane w (suc zero) row less = rw (lt-ltb (row - 1) 2 (omega arith)) refl
above_plane w (suc (suc column)) row less =
    let no : eqb (suc (suc column)) 0 ≡ false = grind arith in
    let nor : eqb (suc (suc column)) 1 ≡ false = grind arith in
    rw (no, nor, lt-ltb row 2 less) refl

left_of_plane : (w column row : ℕ) → column < 2 → row < 3 → sample_at w [] column row ≡ 0
unfolding sample_at sample_inside
left_of_plane w zero row first less = refl
left_of_plane w (suc zero) row first less = rw (lt-ltb (row - 1) 2 (omega arith)) refl
left_of_plane w (suc (suc column)) row first less = absurd (omega arith)

none_above : (w : ℕ) → 1 ≤ w → 0 / w ≡ 0
none_above w some = ap (λ n. n / w) (let e : 0 ≡ 0 * w + 0 = omega arith in e) ∙ div-mul-add 0 w 0 some

pub first_lines : (depth w : ℕ) (line above far : List ℕ) → IsCodedDepth depth → 1 ≤ w → w ≤ greatest_side → line ≡ replicate (w + 3) 0 → above ≡ replicate (w + 3) 0
    → far ≡ replicate (w + 3) 0 → AreNearLines depth w 0 [] line above far
first_lines depth w line above far deep some wide line_zero above_zero far_zero = record {
  deep = deep;
  some = some;
  wide = wide;
  within = omega arith;
  whole = ap (λ n. n % w) (let e : 0 ≡ 0 * w + 0 = omega arith in e) ∙ mod-mul-add 0 w 0 some;
  small = λ s. pow_pos depth;
  line_long = ap length line_zero ∙ length-replicate {A = ℕ} (w + 3) 0;
  above_long = ap length above_zero ∙ length-replicate {A = ℕ} (w + 3) 0;
  far_above_long = ap length far_zero ∙ length-replicate {A = ℕ} (w + 3) 0;
  borders = λ column less. ap (λ l. get_or l column 0) line_zero ∙ get_or-zeros (w + 3) column
      ∙ sym (left_of_plane w column (0 / w + 2) less (let none = none_above w some in omega arith));
  is_above = λ column less. ap (λ l. get_or l column 0) above_zero ∙ get_or-zeros (w + 3) column
      ∙ sym (above_plane w column (0 / w + 1) (let none = none_above w some in omega arith));
  is_far_above = λ column less. ap (λ l. get_or l column 0) far_zero ∙ get_or-zeros (w + 3) column
      ∙ sym (above_plane w column (0 / w) (let none = none_above w some in omega arith));
}
