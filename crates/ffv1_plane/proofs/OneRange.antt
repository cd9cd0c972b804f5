-- No content codes two lists of planes.
use Rattle.std.proofs.Common.{◌≡◌, ◌≢◌, ℕ, zero, suc, ◌+◌, ◌-◌, ◌*◌, ◌/◌, ◌%◌, ◌^◌, ◌<◌, ◌≤◌, eqb, cond, Bool, true, false, List, [], ◌∷◌, ◌++◌, length, map, get_or, Result, Ok, Err, refl, sym, ap, ◌∙◌, subst, arith, ℤ, pos, negsuc, nat_abs, int_lt, ◌-ℤ◌, ◌≤ℤ◌, ◌<ℤ◌, neg_ℤ, inl, inr, lit≤, suc-mul, append_assoc}
use Rattle.std.specs.Prelude.{if◌then◌else◌, slice_index, slice_index_or, unsigned_abs}
use Rattle.std.specs.List.{All}
use Rattle.std.proofs.lemmas.Bool.{cases_eq, cases_order, eq-eqb, ne_eqb}
use Rattle.std.proofs.lemmas.List.{map-append, ext_get_or}
use Rattle.std.proofs.lemmas.Int.{ints}
use Rattle.std.proofs.Math.Nat.{pow-le-pow_right, pow-suc, mul_comm}
use Rattle.ffv1_range.specs.Coding.{Mode, Coder, Place, PlaceOf, IsRangeRun}
use Rattle.ffv1_range.specs.Rows.{Rows, with_row, RowBits, IsRowsRun}
use Rattle.ffv1_range.specs.Reading.{signed_form_within}
use Rattle.ffv1_range.specs.Symbols.{signed_symbol_bits}
use Rattle.ffv1_range.specs.declared.coding.RangeFault.{RangeFault}
use Rattle.ffv1_range.proofs.RowRuns.{rows_split}
use Rattle.ffv1_range.proofs.Spelling.{signed_symbol_is_spelled, same_ok}
use Rattle.ffv1_rice.specs.States.{IsCodedDepth, IsDifference, fold}
use Rattle.ffv1_rice.proofs.Folds.{fold_range}
use Rattle.ffv1_range.specs.Setup.{RecordingValue, IsInVersion3, set_entry}
use Rattle.ffv1_plane.specs.Lines.{Line, line_at, lines_of_row, row_after_row}
use Rattle.ffv1_plane.specs.RangeLines.{line_bits, lines_bits}
use Rattle.ffv1_plane.specs.RangeSlices.{slice_shape, lines_of, size_at, height_at, coded_depth_of, are_signed, group_at, slice_plane, no_size, HasGroups, place_at, context_row, ArePlanesCoded, AreLinesStuck}
use Rattle.ffv1_plane.specs.RangeLaws.{OneRangeReading, StuckRangeCodesNothing, HaveEqualRows, IsOneRangePlace, StuckRangeIsOne}
use Rattle.ffv1_plane.specs.RangeReading.{IsPlaneSize, group_states, IsSliceRead, IsSliceFaultOf, AreCodedAt}
use Rattle.ffv1_plane.specs.declared.planes.RangeLines.{RangeLines}
use Rattle.ffv1_plane.specs.declared.planes.LinesFault.{LinesFault}
use Rattle.ffv1_plane.specs.declared.planes.LinesFault.TheVariants as lines_faults
use Rattle.ffv1_plane.specs.declared.planes.PlaneSize.{PlaneSize}
use Rattle.ffv1_plane.proofs.CodedLines.{row_more, rows_known, AreRowsInOrder, known_append, order_append, none_known, known_planes, order_planes}
use Rattle.ffv1_plane.proofs.RangeSlices.{AreBelow, followed, orders_below, below_front, below_middle}
use Rattle.ffv1_plane.specs.Samples.{Coding, coding_at, SamplesAbout, prediction_of, neighbours_at, context_at, context_of, difference_of}
use Rattle.ffv1_plane.specs.Spelling.{columns_before}
use Rattle.ffv1_plane.specs.RangeRows.{RangePlane, signed_prediction_of, range_difference_at, state_row, sample_bits, columns_bits, row_bits, range_prediction_at, is_difference, difference_form, fault_of_difference}
use Rattle.ffv1_plane.specs.declared.range_rows.DifferenceFault.{DifferenceFault}
use Rattle.ffv1_plane.specs.declared.range_rows.DifferenceFault.TheVariants as difference_faults
use Rattle.ffv1_range.specs.Forms.{◌>>=◌, giving, accepted, lifted, lifted_result}
use Rattle.ffv1_range.proofs.Forms.{bind_ok}
use Rattle.std.proofs.lemmas.Grind.{flat_map-append}
use Rattle.std.proofs.lemmas.Nat.{pow_pos}
use Rattle.ffv1_plane.specs.Inner.RangeRows.{range_plane}
use Rattle.ffv1_plane.proofs.Causal.{neighbours_same}
use Rattle.ffv1_plane.proofs.OnePlane.{one_sample_of}

-- ---- one symbol

difference_fits : (n : ℕ) (z : ℤ) → IsCodedDepth n → IsDifference n z → unsigned_abs z < 2 ^ 32
difference_fits n z deep range =
    let most : 2 ^ (n - 1) ≤ 2 ^ 16 = (let few : n - 1 ≤ 16 = omega (arith, deep.most) in pow-le-pow_right (lit≤ tt) few) in
    abs_below z (2 ^ (n - 1)) range.low range.high most
  where
    abs_below : (z : ℤ) (h : ℕ) → neg_ℤ (pos h) ≤ℤ z → z <ℤ pos h → h ≤ 2 ^ 16 → unsigned_abs z < 2 ^ 32
    abs_below (pos k) h low high most = omega (arith, ints, low, high, most)
    abs_below (negsuc k) h low high most = omega (arith, ints, low, high, most)

range_of : (n : ℕ) (context : ℤ) (p a : ℕ) → IsCodedDepth n → IsDifference n (difference_of n context p a)
unfolding difference_of
range_of n context p a deep = either (int_lt context (pos 0))
  where
    either : (t : Bool) → IsDifference n (cond t (fold n (pos p -ℤ pos a)) (fold n (pos a -ℤ pos p)))
    either true = fold_range n (pos p -ℤ pos a) deep
    either false = fold_range n (pos a -ℤ pos p) deep

-- the symbols of two numbers at one place are of one number
one_symbol : (mode : Mode) (p q r : Place) (a b : ℤ) → unsigned_abs a < 2 ^ 32 → unsigned_abs b < 2 ^ 32
    → IsRangeRun mode p (signed_symbol_bits a) q → IsRangeRun mode p (signed_symbol_bits b) r → (a ≡ b) × (q ≡ r)
one_symbol mode p q r a b small tiny h k =
    let first : signed_form_within 32 mode p ≡ Ok (a, q) = (signed_symbol_is_spelled 32 (lit≤ tt) mode p q a).1 (small, h) in
    let second : signed_form_within 32 mode p ≡ Ok (b, r) = (signed_symbol_is_spelled 32 (lit≤ tt) mode p r b).1 (tiny, k) in
    let pair : ◌≡◌ {A = ℤ × Place} (a, q) (b, r) = same_ok {E = RangeFault} (a, q) (b, r) (sym first ∙ second) in
    (ap (λ z. z.0) pair, ap (λ z. z.1) pair)

-- ---- one sample

module _ (w : ℕ) (coding : Coding) (group : ℕ) (is_signed : Bool) (some : 1 ≤ w) (deep : IsCodedDepth coding.depth) (xs ys : List ℕ)
    (small : (s : ℕ) → get_or xs s 0 < 2 ^ coding.depth) (tiny : (s : ℕ) → get_or ys s 0 < 2 ^ coding.depth) (mode : Mode) where
  -- the bits of a sample, by what stands about it
  bits_about : SamplesAbout → ℕ → RowBits
  bits_about n x = (
    state_row group (nat_abs (context_of coding.entry n)),
    signed_symbol_bits (difference_of coding.depth (context_of coding.entry n) (if is_signed then signed_prediction_of n else prediction_of n) x),
  )

  bits_are : (samples : List ℕ) (s : ℕ) → sample_bits (range_plane w coding group is_signed samples) s ≡ bits_about (neighbours_at w samples s) (get_or samples s 0)
  unfolding sample_bits bits_about
  bits_are samples s = refl

  one_about : (n : SamplesAbout) (x y : ℕ) (a q r : PlaceOf Rows) → x < 2 ^ coding.depth → y < 2 ^ coding.depth
      → IsRowsRun mode a (bits_about n x ∷ []) q → IsRowsRun mode a (bits_about n y ∷ []) r → (x ≡ y) × (q ≡ r)
  unfolding IsRowsRun bits_about
  one_about n x y a q r less below h k =
      let context : ℤ = context_of coding.entry n in
      let p : ℕ = if is_signed then signed_prediction_of n else prediction_of n in
      let here : PlaceOf (List ℕ) = record { coder = a.coder; states = a.states (state_row group (nat_abs context)) } in
      let one =
      one_symbol mode here h.0 k.0 (difference_of coding.depth context p x) (difference_of coding.depth context p y)
      (difference_fits coding.depth _ deep (range_of coding.depth context p x deep)) (difference_fits coding.depth _ deep (range_of coding.depth context p y deep)) h.1 k.1 in (
        one_sample_of coding.depth context p x y deep less below one.0,
        sym h.2
            ∙ ap (λ (m : Place). record { coder = m.coder; states = with_row a.states (state_row group (nat_abs context)) m.states }) one.1
            ∙ k.2,
      )

  one_sample : (s : ℕ) (a q r : PlaceOf Rows) → ((j : ℕ) → j < s → get_or xs j 0 ≡ get_or ys j 0)
      → IsRowsRun mode a (sample_bits (range_plane w coding group is_signed xs) s ∷ []) q
      → IsRowsRun mode a (sample_bits (range_plane w coding group is_signed ys) s ∷ []) r → (get_or xs s 0 ≡ get_or ys s 0) × (q ≡ r)
  one_sample s a q r same h k =
      let near : neighbours_at w xs s ≡ neighbours_at w ys s = neighbours_same w s some xs ys same in
      one_about (neighbours_at w xs s) (get_or xs s 0) (get_or ys s 0) a q r (small s) (tiny s)
      (subst (λ b. IsRowsRun mode a (b ∷ []) q) (bits_are xs s) h)
      (subst (λ n. IsRowsRun mode a (bits_about n (get_or ys s 0) ∷ []) r) (sym near) (subst (λ b. IsRowsRun mode a (b ∷ []) r) (bits_are ys s) k))

  -- ---- one row

  columns_more : (samples : List ℕ) (y x : ℕ) → columns_bits (range_plane w coding group is_signed samples) y (suc x)
      ≡ columns_bits (range_plane w coding group is_signed samples) y x ++ sample_bits (range_plane w coding group is_signed samples) (y * w + x) ∷ []
  unfolding columns_before
  columns_more samples y x = map-append (λ column. sample_bits (range_plane w coding group is_signed samples) (y * w + column)) (columns_before x) (x ∷ [])

  pub one_columns : (y x : ℕ) (a q r : PlaceOf Rows) → ((j : ℕ) → j < y * w → get_or xs j 0 ≡ get_or ys j 0)
      → IsRowsRun mode a (columns_bits (range_plane w coding group is_signed xs) y x) q
      → IsRowsRun mode a (columns_bits (range_plane w coding group is_signed ys) y x) r
      → ((j : ℕ) → j < y * w + x → get_or xs j 0 ≡ get_or ys j 0) × (q ≡ r)
  unfolding IsRowsRun columns_before
  one_columns y zero a q r same h k = (λ j less. same j (omega (arith, less)), sym h ∙ k)
  one_columns y (suc x) a q r same h k =
      let f = range_plane w coding group is_signed xs in
      let g = range_plane w coding group is_signed ys in
      let first = rows_split mode (columns_bits f y x) (sample_bits f (y * w + x) ∷ []) a q (subst (λ b. IsRowsRun mode a b q) (columns_more xs y x) h) in
      let second = rows_split mode (columns_bits g y x) (sample_bits g (y * w + x) ∷ []) a r (subst (λ b. IsRowsRun mode a b r) (columns_more ys y x) k) in
      let before = one_columns y x a first.0 second.0 same first.1 second.1 in
      let here =
      one_sample (y * w + x) first.0 q r before.0 first.2
      (subst (λ m. IsRowsRun mode m (sample_bits g (y * w + x) ∷ []) r) (sym before.1) second.2) in (
        λ j less. elim (cases_eq j (y * w + x)) [
          | inl is ↦ ap (λ n. get_or xs n 0) is ∙ here.0 ∙ ap (λ n. get_or ys n 0) (sym is)
          | inr apart ↦ before.0 j (omega (arith, less, apart))
        ],
        here.1,
      )

-- ---- the lines of several planes

row_known : (known : ℕ → ℕ) (row count p : ℕ) → rows_known known (lines_of_row row (suc count)) p ≡ cond (eqb p count)
    (suc (rows_known known (lines_of_row row count) p)) (rows_known known (lines_of_row row count) p)
unfolding lines_of_row rows_known row_more
row_known known row count p = ap (λ f. f p) (known_append known (lines_of_row row count) (line_at count row ∷ []))

-- planes past the count have no more rows ..
row_untouched : (known : ℕ → ℕ) (row count p : ℕ) → count ≤ p → rows_known known (lines_of_row row count) p ≡ known p
unfolding lines_of_row rows_known
row_untouched known row zero p past = refl
row_untouched known row (suc count) p past =
    let now = rows_known known (lines_of_row row count) p in
    row_known known row count p ∙ ap (λ b. cond b (suc now) now) (ne_eqb p count (λ e. omega (arith, past, e))) ∙ row_untouched known row count p (omega (arith, past))

-- .. and the others one
row_touched : (known : ℕ → ℕ) (row count p : ℕ) → p < count → rows_known known (lines_of_row row count) p ≡ suc (known p)
row_touched known row zero p less = absurd (omega (arith, less))
row_touched known row (suc count) p less = row_known known row count p ∙ elim (cases_eq p count) [
  | inl same ↦
      let now = rows_known known (lines_of_row row count) p in
      ap (λ b. cond b (suc now) now) (eq-eqb p count same) ∙ ap suc (row_untouched known row count p (omega (arith, same)))
  | inr apart ↦
      let now = rows_known known (lines_of_row row count) p in
      ap (λ b. cond b (suc now) now) (ne_eqb p count apart) ∙ row_touched known row count p (omega (arith, less, apart))
]

rows_order : (known : ℕ → ℕ) (row count : ℕ) → ((p : ℕ) → p < count → known p ≡ row) → AreRowsInOrder known (lines_of_row row count)
unfolding lines_of_row AreRowsInOrder
rows_order known row zero same = tt
rows_order known row (suc count) same =
    order_append known (lines_of_row row count) (line_at count row ∷ []) (rows_order known row count (λ p less. same p (omega (arith, less))))
    (sym (row_untouched known row count count (omega arith) ∙ same count (omega arith)), tt)

known_all_rows : (count height p : ℕ) → p < count → rows_known none_known (row_after_row count height) p ≡ height
unfolding row_after_row rows_known
known_all_rows count zero p less = refl
known_all_rows count (suc height) p less =
    ap (λ f. f p) (known_append none_known (row_after_row count height) (lines_of_row height count))
    ∙ row_touched (rows_known none_known (row_after_row count height)) height count p less ∙ ap suc (known_all_rows count height p less)

order_all_rows : (count height : ℕ) → AreRowsInOrder none_known (row_after_row count height)
unfolding row_after_row AreRowsInOrder
order_all_rows count zero = tt
order_all_rows count (suc height) =
    order_append none_known (row_after_row count height) (lines_of_row height count) (order_all_rows count height)
    (rows_order (rows_known none_known (row_after_row count height)) height count (λ p less. known_all_rows count height p less))

pub lines_order : (is_rgb : Bool) (sizes : List PlaneSize) → AreRowsInOrder none_known (lines_of is_rgb sizes)
lines_order true sizes = order_all_rows (length sizes) (height_at sizes 0)
lines_order false sizes = order_planes (height_at sizes) (length sizes)

pub lines_known : (is_rgb : Bool) (sizes : List PlaneSize) (p : ℕ) → p < length sizes → (is_rgb ≡ true → height_at sizes p ≡ height_at sizes 0)
    → rows_known none_known (lines_of is_rgb sizes) p ≡ height_at sizes p
lines_known true sizes p less same = known_all_rows (length sizes) (height_at sizes 0) p less ∙ sym (same refl)
lines_known false sizes p less same = known_planes (height_at sizes) (length sizes) p less

row_inside : (known : ℕ → ℕ) (plane p j row w : ℕ) → p ≡ plane → row ≡ known plane → j < row_more known plane p * w → j < row * w + w
unfolding row_more
row_inside known plane p j row w is place less =
    let count : row_more known plane p ≡ suc row =
    ap (λ b. cond b (suc (known p)) (known p)) (eq-eqb p plane is) ∙ ap (λ n. suc (known n)) is ∙ ap suc (sym place) in
    let sum : suc row * w ≡ row * w + w = suc-mul row w in
    omega (arith, subst (λ n. j < n * w) count less, sum)

row_outside : (known : ℕ → ℕ) (plane p j w : ℕ) → p ≢ plane → j < row_more known plane p * w → j < known p * w
unfolding row_more
row_outside known plane p j w apart less = subst (λ n. j < n * w) (ap (λ b. cond b (suc (known p)) (known p)) (ne_eqb p plane apart)) less

-- two lists of planes of one slice
module _ (r : RecordingValue) (sets : List ℕ) (sizes : List PlaneSize) (mode : Mode) (planes others : List (List ℕ)) (deep : IsCodedDepth (coded_depth_of r))
    (some : (p : ℕ) → p < length sizes → 1 ≤ (size_at sizes p).width)
    (small : (p : ℕ) → p < length sizes → (s : ℕ) → get_or (slice_index_or planes p []) s 0 < 2 ^ coded_depth_of r)
    (tiny : (p : ℕ) → p < length sizes → (s : ℕ) → get_or (slice_index_or others p []) s 0 < 2 ^ coded_depth_of r) where
  -- samples of the first rows of each plane are the same
  AreSameUpTo : (ℕ → ℕ) → Type 0
  AreSameUpTo known = (p : ℕ) → p < length sizes → (j : ℕ) → j < known p * (size_at sizes p).width
      → get_or (slice_index_or planes p []) j 0 ≡ get_or (slice_index_or others p []) j 0

  one_lines : (known : ℕ → ℕ) (lines : List Line) (a q b : PlaceOf Rows) → AreRowsInOrder known lines → AreBelow (length sizes) lines → AreSameUpTo known
      → IsRowsRun mode a (lines_bits (slice_plane (slice_shape r sets sizes) planes) lines) q
      → IsRowsRun mode a (lines_bits (slice_plane (slice_shape r sets sizes) others) lines) b → AreSameUpTo (rows_known known lines) × (q ≡ b)
  unfolding IsRowsRun AreRowsInOrder rows_known AreSameUpTo
  one_lines known [] a q b order below same h k = (same, sym h ∙ k)
  one_lines known (line ∷ lines) a q b order (followed less below) same h k =
      let shape = slice_shape r sets sizes in
      let w : ℕ = (size_at sizes line.plane).width in
      let first = rows_split mode (line_bits (slice_plane shape planes) line) (lines_bits (slice_plane shape planes) lines) a q h in
      let second = rows_split mode (line_bits (slice_plane shape others) line) (lines_bits (slice_plane shape others) lines) a b k in
      let here =
      one_columns w (coding_at (coded_depth_of r) (set_entry r.setup (slice_index sets (group_at shape line.plane)))) (group_at shape line.plane) (are_signed r)
      (some line.plane less) deep (slice_index_or planes line.plane []) (slice_index_or others line.plane []) (small line.plane less) (tiny line.plane less) mode
      line.row w a first.0 second.0 (λ j before. same line.plane less j (subst (λ n. j < n * w) order.0 before)) first.1 second.1 in
      let more : AreSameUpTo (row_more known line.plane) = λ p inside j before. elim (cases_eq p line.plane) [
        | inl is ↦
            subst (λ n. get_or (slice_index_or planes n []) j 0 ≡ get_or (slice_index_or others n []) j 0) (sym is)
            (here.0 j (row_inside known line.plane p j line.row w is order.0 (subst (λ n. j < row_more known line.plane p * (size_at sizes n).width) is before)))
        | inr apart ↦ same p inside j (row_outside known line.plane p j (size_at sizes p).width apart before)
      ] in
      one_lines (row_more known line.plane) lines first.0 q b order.1 below more first.2
      (subst (λ m. IsRowsRun mode m (lines_bits (slice_plane shape others) lines) b) (sym here.1) second.2)

  none_same : AreSameUpTo none_known
  unfolding AreSameUpTo
  none_same p less j before = absurd (omega (arith, before))

  up_to : (known : ℕ → ℕ) → AreSameUpTo known → (p : ℕ) → p < length sizes → (j : ℕ) → j < known p * (size_at sizes p).width
      → get_or (slice_index_or planes p []) j 0 ≡ get_or (slice_index_or others p []) j 0
  unfolding AreSameUpTo
  up_to known same = same

-- ---- whole slices

-- rows of states with these of each group
pub rows_with : (ℕ → List (List ℕ)) → Rows
rows_with states k = get_or (states (k % 3)) (k / 3) []

pub has_rows : (states : ℕ → List (List ℕ)) → HasGroups (rows_with states) states
unfolding rows_with
has_rows states group small k inside =
    let rest : state_row group k % 3 ≡ group = omega arith in
    let quotient : state_row group k / 3 ≡ k = omega arith in
    ap (λ g. get_or (states g) (state_row group k / 3) []) rest ∙ ap (λ n. get_or (states group) n []) quotient

pub coded_depth_deep : (r : RecordingValue) → IsInVersion3 r → IsCodedDepth (coded_depth_of r)
coded_depth_deep r version = either r.is_rgb
  where
    either : (b : Bool) → IsCodedDepth (r.depth + (if b then 1 else 0))
    either true = record { least = omega (arith, version.some_depth); most = omega (arith, version.few_depth) }
    either false = record { least = omega (arith, version.some_depth); most = omega (arith, version.few_depth) }

pub one_range_reading : OneRangeReading
one_range_reading r sets sizes mode start end last before after later planes others version fit equal h k =
    let deep = coded_depth_deep r version in
    let rows = rows_with before in
    let first = h.run rows (has_rows before) in
    let second = k.run rows (has_rows before) in
    let some : (p : ℕ) → p < length sizes → 1 ≤ (size_at sizes p).width = λ p less. (fit p no_size less).0 in
    let one =
    one_lines r sets sizes mode planes others deep some (λ p less. (h.sizes.each p less).small) (λ p less. (k.sizes.each p less).small) none_known
    (lines_of r.is_rgb sizes) (place_at start rows) (place_at end first.next) (place_at last second.next) (lines_order r.is_rgb sizes)
    (orders_below r.is_rgb sizes) (none_same r sets sizes mode planes others deep some (λ p less. (h.sizes.each p less).small) (λ p less. (k.sizes.each p less).small))
    first.run second.run in
    let counts : length planes ≡ length others = h.sizes.count ∙ sym k.sizes.count in (
      ext_get_or [] planes others counts (λ p less.
          let inside : p < length sizes = omega (arith, less, h.sizes.count) in
          let size = h.sizes.each p inside in
          ext_get_or 0 (slice_index_or planes p []) (slice_index_or others p []) (size.count ∙ sym (k.sizes.each p inside).count) (λ j below.
          up_to r sets sizes mode planes others deep some (λ q l. (h.sizes.each q l).small) (λ q l. (k.sizes.each q l).small) _ one.0 p inside j
          (let known = lines_known r.is_rgb sizes p inside (λ is. equal is p inside) in
          let order : (size_at sizes p).width * height_at sizes p ≡ height_at sizes p * (size_at sizes p).width = mul_comm (size_at sizes p).width (height_at sizes p) in
          subst (λ n. j < n * (size_at sizes p).width) (sym known) (omega (arith, below, size.count, order))))),
      ap (λ z. z.coder) one.1,
    )

-- ---- contents that are stuck

order_front : (known : ℕ → ℕ) (xs ys : List Line) → AreRowsInOrder known (xs ++ ys) → AreRowsInOrder known xs
unfolding AreRowsInOrder
order_front known [] ys h = tt
order_front known (line ∷ xs) ys h = (h.0, order_front (row_more known line.plane) xs ys h.1)

order_middle : (known : ℕ → ℕ) (xs ys : List Line) (line : Line) → AreRowsInOrder known (xs ++ (line ∷ ys)) → line.row ≡ rows_known known xs line.plane
unfolding AreRowsInOrder rows_known
order_middle known [] ys line h = h.0
order_middle known (x ∷ xs) ys line h = order_middle (row_more known x.plane) xs ys line h.1

columns_split : (w x : ℕ) → x < w → (rest : List ℕ) × (columns_before w ≡ columns_before x ++ (x ∷ rest))
unfolding columns_before
columns_split zero x less = absurd (omega (arith, less))
columns_split (suc w) x less = elim (cases_eq x w) [
  | inl same ↦ ([], ap (λ n. columns_before w ++ n ∷ []) (sym same) ∙ ap (λ n. columns_before n ++ x ∷ []) (sym same))
  | inr apart ↦
      let before = columns_split w x (omega (arith, less, apart)) in
      (before.0 ++ w ∷ [], ap (λ l. l ++ w ∷ []) before.1 ∙ append_assoc (columns_before x) (x ∷ before.0) (w ∷ []))
]

-- a difference whose symbol is coded is read
form_reads : (n : ℕ) (mode : Mode) (p q : Place) (z : ℤ) → IsCodedDepth n → IsDifference n z → IsRangeRun mode p (signed_symbol_bits z) q
    → difference_form n mode p ≡ Ok (z, q)
form_reads n mode p q z deep range run =
    let few : n ≤ 32 = omega (arith, deep.most) in
    let read : signed_form_within n mode p ≡ Ok (z, q) = (signed_symbol_is_spelled n few mode p q z).1 (fits_depth n z deep range, run) in
    let fits : is_difference n z ≡ true = is_one n z range in
    bind_ok (lifted fault_of_difference (signed_form_within n) mode p)
    (λ (x : ℤ × Place). (accepted (is_difference n x.0) difference_faults.TooLarge >>= λ fits. giving x.0) mode x.1) (z, q) (ap (lifted_result fault_of_difference) read)
    ∙ ap (λ b. (accepted b difference_faults.TooLarge >>= λ fits. giving z) mode q) fits
  where
    half_below : (n : ℕ) → IsCodedDepth n → 2 ^ (n - 1) < 2 ^ n
    half_below n deep =
        let one : 2 ^ (n - 1) < 2 ^ suc (n - 1) = (let p = pow_pos (n - 1) in omega (arith, pow-suc 2 (n - 1), p)) in
        let is : suc (n - 1) ≡ n = omega (arith, deep.least) in
        subst (λ k. 2 ^ (n - 1) < 2 ^ k) is one

    abs_at : (z : ℤ) (h : ℕ) → neg_ℤ (pos h) ≤ℤ z → z <ℤ pos h → unsigned_abs z ≤ h
    abs_at (pos k) h low high = omega (arith, ints, low, high)
    abs_at (negsuc k) h low high = omega (arith, ints, low, high)

    fits_depth : (n : ℕ) (z : ℤ) → IsCodedDepth n → IsDifference n z → unsigned_abs z < 2 ^ n
    fits_depth n z deep range = let a = abs_at z (2 ^ (n - 1)) range.low range.high in let b = half_below n deep in omega (arith, a, b)

    is_one : (n : ℕ) (z : ℤ) → IsDifference n z → is_difference n z ≡ true
    is_one n z range = let low = range.low in let high = range.high in grind (arith, ints)

-- where the symbol of a sample is coded, its difference is not refused
not_refused : (g : RangePlane) (s : ℕ) (mode : Mode) (a q : PlaceOf Rows) (rest : List RowBits) (fault : DifferenceFault) → IsCodedDepth g.plane.coding.depth
    → IsRowsRun mode a (sample_bits g s ∷ rest) q
    → difference_form g.plane.coding.depth mode (record { coder = a.coder; states = a.states (context_row g s) }) ≡ Err fault → ⊥
unfolding IsRowsRun sample_bits
not_refused g s mode a q rest fault deep run refused =
    let read =
    form_reads g.plane.coding.depth mode (record { coder = a.coder; states = a.states (context_row g s) }) run.0 (range_difference_at g s) deep
    (range_of g.plane.coding.depth (context_at g.plane s) (range_prediction_at g s) (get_or g.plane.samples s 0) deep) run.1 in
    let apart : ◌≡◌ {A = Result (ℤ × Place) DifferenceFault} (Ok (range_difference_at g s, run.0)) (Err fault) = sym read ∙ refused in
    cc

-- What is stuck, and planes of which some lines are coded from the same place.
module _ (r : RecordingValue) (sets : List ℕ) (sizes : List PlaneSize) (mode : Mode) (start : Coder) (before : ℕ → List (List ℕ)) (fault : DifferenceFault)
    (plane row x : ℕ) (planes : List (List ℕ)) (version : IsInVersion3 r) (fit : All IsPlaneSize sizes)
    (s : AreLinesStuck mode (slice_shape r sets sizes) start before fault plane row x)
    (small : (p : ℕ) → p < length sizes → (i : ℕ) → get_or (slice_index_or planes p []) i 0 < 2 ^ coded_depth_of r) where
  some_width : (p : ℕ) → p < length sizes → 1 ≤ (size_at sizes p).width
  some_width p less = (fit p no_size less).0

  in_order : AreRowsInOrder none_known (s.done ++ (line_at plane row ∷ s.later))
  in_order = subst (AreRowsInOrder none_known) s.order (lines_order r.is_rgb sizes)

  all_below : AreBelow (length sizes) (s.done ++ (line_at plane row ∷ s.later))
  all_below = subst (AreBelow (length sizes)) s.order (orders_below r.is_rgb sizes)

  plane_inside : plane < length sizes
  plane_inside = below_middle (length sizes) s.done s.later (line_at plane row) all_below

  -- The lines before, and some columns of the row, are coded by the planes.
  record IsCodedTo (z : ℕ) : Type 0 where
    between : PlaceOf Rows
    last : PlaceOf Rows
    lines : IsRowsRun mode (place_at start (rows_with before)) (lines_bits (slice_plane (slice_shape r sets sizes) planes) s.done) between
    columns : IsRowsRun mode between (columns_bits (slice_plane (slice_shape r sets sizes) planes plane) row z) last

  -- The samples before are the same, and so is the place.
  record IsSameTo (c : IsCodedTo x) : Type 0 where
    place : (s.stuck (rows_with before) (has_rows before)).here ≡ c.last
    state :
        context_row (slice_plane (slice_shape r sets sizes) s.planes plane) (row * (size_at sizes plane).width + x)
        ≡ context_row (slice_plane (slice_shape r sets sizes) planes plane) (row * (size_at sizes plane).width + x)

  same_to : (c : IsCodedTo x) → IsSameTo c
  same_to c =
      let deep = coded_depth_deep r version in
      let shape = slice_shape r sets sizes in
      let st = s.stuck (rows_with before) (has_rows before) in
      let w : ℕ = (size_at sizes plane).width in
      let lines =
      one_lines r sets sizes mode s.planes planes deep some_width s.small small none_known s.done (place_at start (rows_with before)) st.line_start c.between
      (order_front none_known s.done (line_at plane row ∷ s.later) in_order) (below_front (length sizes) s.done (line_at plane row ∷ s.later) all_below)
      (none_same r sets sizes mode s.planes planes deep some_width s.small small) st.lines_run c.lines in
      let known : row ≡ rows_known none_known s.done plane = order_middle none_known s.done s.later (line_at plane row) in_order in
      let same =
      one_columns w (coding_at (coded_depth_of r) (set_entry r.setup (slice_index sets (group_at shape plane)))) (group_at shape plane) (are_signed r)
      (some_width plane plane_inside) deep (slice_index_or s.planes plane []) (slice_index_or planes plane []) (s.small plane plane_inside) (small plane plane_inside)
      mode row x st.line_start st.here c.last
      (λ j less. up_to r sets sizes mode s.planes planes deep some_width s.small small _ lines.0 plane plane_inside j (subst (λ n. j < n * w) known less)) st.columns_run
      (subst (λ m. IsRowsRun mode m (columns_bits (slice_plane shape planes plane) row x) c.last) (sym lines.1) c.columns) in
      let near : neighbours_at w (slice_index_or s.planes plane []) (row * w + x) ≡ neighbours_at w (slice_index_or planes plane []) (row * w + x) =
      neighbours_same w (row * w + x) (some_width plane plane_inside) (slice_index_or s.planes plane []) (slice_index_or planes plane []) same.0 in
      record {
        place = same.1;
        state = ap (λ n. state_row (group_at shape plane) (nat_abs (context_of (set_entry r.setup (slice_index sets (group_at shape plane))) n))) near;
      }

  -- So the sample's difference is refused after them too ..
  refused_to : (c : IsCodedTo x) → difference_form (coded_depth_of r) mode (record {
    coder = c.last.coder;
    states = c.last.states (context_row (slice_plane (slice_shape r sets sizes) planes plane) (row * (size_at sizes plane).width + x));
  }) ≡ Err fault
  refused_to c =
      let same = same_to c in
      let st = s.stuck (rows_with before) (has_rows before) in
      subst (λ (m : PlaceOf Rows). difference_form (coded_depth_of r) mode (record {
        coder = m.coder;
        states = m.states (context_row (slice_plane (slice_shape r sets sizes) planes plane) (row * (size_at sizes plane).width + x));
      }) ≡ Err fault) same.place
      (subst (λ n. difference_form (coded_depth_of r) mode (record { coder = st.here.coder; states = st.here.states n }) ≡ Err fault) same.state st.refused)

  -- .. and no more columns are coded.
  no_more_columns : (z : ℕ) → x < z → IsCodedTo z → ⊥
  no_more_columns z less c =
      let shape = slice_shape r sets sizes in
      let g = slice_plane shape planes plane in
      let split = columns_split z x less in
      let bits : ℕ → RowBits = λ column. sample_bits g (row * (size_at sizes plane).width + column) in
      let parts : columns_bits g row z ≡ columns_bits g row x ++ (sample_bits g (row * (size_at sizes plane).width + x) ∷ map bits split.0) =
      ap (map bits) split.1 ∙ map-append bits (columns_before x) (x ∷ split.0) in
      let both =
      rows_split mode (columns_bits g row x) (sample_bits g (row * (size_at sizes plane).width + x) ∷ map bits split.0) c.between c.last
      (subst (λ b. IsRowsRun mode c.between b c.last) parts c.columns) in
      not_refused g (row * (size_at sizes plane).width + x) mode both.0 c.last (map bits split.0) fault (coded_depth_deep r version) both.2
      (refused_to (record { between = c.between; last = both.0; lines = c.lines; columns = both.1 }))

  -- nor more lines
  no_more_lines : (more : List Line) (end : PlaceOf Rows)
      → IsRowsRun mode (place_at start (rows_with before)) (lines_bits (slice_plane (slice_shape r sets sizes) planes) (s.done ++ (line_at plane row ∷ more))) end → ⊥
  no_more_lines more end run =
      let g = slice_plane (slice_shape r sets sizes) planes in
      let first =
      rows_split mode (lines_bits g s.done) (row_bits (g plane) row ++ lines_bits g more) (place_at start (rows_with before)) end
      (subst (λ b. IsRowsRun mode (place_at start (rows_with before)) b end) (flat_map-append (line_bits g) s.done (line_at plane row ∷ more)) run) in
      let whole = rows_split mode (row_bits (g plane) row) (lines_bits g more) first.0 end first.2 in
      no_more_columns (size_at sizes plane).width s.inside (record { between = first.0; last = whole.0; lines = first.1; columns = whole.1 })

pub stuck_range_codes_nothing : StuckRangeCodesNothing
stuck_range_codes_nothing r sets sizes mode start end before after fault plane row x planes version fit s h =
    let run = h.run (rows_with before) (has_rows before) in
    no_more_lines r sets sizes mode start before fault plane row x planes version fit s (λ p less. (h.sizes.each p less).small) s.later (place_at end run.next)
    (subst (λ l. IsRowsRun mode (place_at start (rows_with before)) (lines_bits (slice_plane (slice_shape r sets sizes) planes) l) (place_at end run.next)) s.order run.run)

-- ---- two places where a content is stuck

-- Two lists that are one, each parted at a line: the first part is shorter, longer, or the same.
data Parted (xs : List Line) (a : Line) (us vs : List Line) (b : Line) (ws : List Line) : Type 0 where
  shorter : (mid : List Line) → us ≡ xs ++ (a ∷ mid) → Parted xs a us vs b ws
  longer : (mid : List Line) → xs ≡ us ++ (b ∷ mid) → Parted xs a us vs b ws
  same_part : xs ≡ us → a ≡ b → Parted xs a us vs b ws

parted : (xs ys us ws : List Line) (a b : Line) → xs ++ (a ∷ ys) ≡ us ++ (b ∷ ws) → Parted xs a us ys b ws
parted [] ys [] ws a b same = same_part refl (head_same same)
  where
    head_same : a ∷ ys ≡ b ∷ ws → a ≡ b
    head_same e = cc
parted [] ys (u ∷ us) ws a b same = shorter us (let e : a ≡ u = cc in ap (λ z. z ∷ us) (sym e))
parted (x ∷ xs) ys [] ws a b same = longer xs (let e : x ≡ b = cc in ap (λ z. z ∷ xs) e)
parted (x ∷ xs) ys (u ∷ us) ws a b same =
    let first : x ≡ u = cc in
    let rest : xs ++ (a ∷ ys) ≡ us ++ (b ∷ ws) = cc in
    elim (parted xs ys us ws a b rest) [
      | shorter mid is ↦ shorter mid (ap (λ l. u ∷ l) is ∙ ap (λ z. z ∷ (xs ++ (a ∷ mid))) (sym first))
      | longer mid is ↦ longer mid (ap (λ l. x ∷ l) is ∙ ap (λ z. z ∷ (us ++ (b ∷ mid))) first)
      | same_part is line ↦ same_part (ap (λ l. x ∷ l) is ∙ ap (λ z. z ∷ us) first) line
    ]

-- what is coded up to where the other is stuck, in one line
coded_as : (r : RecordingValue) (sets : List ℕ) (sizes : List PlaneSize) (mode : Mode) (start : Coder) (before : ℕ → List (List ℕ)) (fault other : DifferenceFault)
    (plane level row v x u : ℕ) (version : IsInVersion3 r) (fit : All IsPlaneSize sizes)
    (s : AreLinesStuck mode (slice_shape r sets sizes) start before fault plane row x)
    (t : AreLinesStuck mode (slice_shape r sets sizes) start before other level v u) (z : ℕ) → s.done ≡ t.done → plane ≡ level → row ≡ v
    → z ≡ u → IsCodedTo r sets sizes mode start before fault plane row x t.planes version fit s t.small z
coded_as r sets sizes mode start before fault other plane level row v x u version fit s t z done same_plane same_row same_column =
    let there = t.stuck (rows_with before) (has_rows before) in
    let g = slice_plane (slice_shape r sets sizes) t.planes in
    record {
      between = there.line_start;
      last = there.here;
      lines = subst (λ l. IsRowsRun mode (place_at start (rows_with before)) (lines_bits g l) there.line_start) (sym done) there.lines_run;
      columns =
          subst (λ p. IsRowsRun mode there.line_start (columns_bits (g p) row z) there.here) (sym same_plane)
          (subst (λ y. IsRowsRun mode there.line_start (columns_bits (g level) y z) there.here) (sym same_row)
          (subst (λ n. IsRowsRun mode there.line_start (columns_bits (g level) v n) there.here) (sym same_column) there.columns_run));
    }

one_fault : (a : Result (ℤ × Place) DifferenceFault) (fault other : DifferenceFault) → a ≡ Err fault → a ≡ Err other → fault ≡ other
one_fault a fault other h k = let e : ◌≡◌ {A = Result (ℤ × Place) DifferenceFault} (Err fault) (Err other) = sym h ∙ k in cc

one_place : (r : RecordingValue) (sets : List ℕ) (sizes : List PlaneSize) (mode : Mode) (start : Coder) (before : ℕ → List (List ℕ)) (fault other : DifferenceFault)
    (plane level row v x u : ℕ) (version : IsInVersion3 r) (fit : All IsPlaneSize sizes)
    (s : AreLinesStuck mode (slice_shape r sets sizes) start before fault plane row x)
    (t : AreLinesStuck mode (slice_shape r sets sizes) start before other level v u) → s.done ≡ t.done → plane ≡ level → row ≡ v
    → IsOneRangePlace fault other plane level row v x u
unfolding coded_as
one_place r sets sizes mode start before fault other plane level row v x u version fit s t done same_plane same_row =
    let after_t = coded_as r sets sizes mode start before fault other plane level row v x u version fit s t u done same_plane same_row refl in
    let after_s = coded_as r sets sizes mode start before other fault level plane v row u x version fit t s x (sym done) (sym same_plane) (sym same_row) refl in
    elim (cases_order x u) [
      | inl same ↦
          let there = t.stuck (rows_with before) (has_rows before) in
          let g = slice_plane (slice_shape r sets sizes) t.planes in
          let here = coded_as r sets sizes mode start before fault other plane level row v x u version fit s t x done same_plane same_row same in
          let refused = refused_to r sets sizes mode start before fault plane row x t.planes version fit s t.small here in
          let form : ℕ → ℕ → ℕ → Result (ℤ × Place) DifferenceFault = λ p y z.
          difference_form (coded_depth_of r) mode
          (record { coder = there.here.coder; states = there.here.states (context_row (g p) (y * (size_at sizes p).width + z)) }) in
          let same_form : form plane row x ≡ form level v u =
          ap (λ p. form p row x) same_plane ∙ ap (λ y. form level y x) same_row ∙ ap (λ z. form level v z) same in
          record {
            fault_same = one_fault (form plane row x) fault other refused (same_form ∙ there.refused);
            plane_same = same_plane;
            row_same = same_row;
            column_same = same;
          }
      | inr apart ↦ elim apart [
        | inl less ↦ absurd (no_more_columns r sets sizes mode start before fault plane row x t.planes version fit s t.small u less after_t)
        | inr more ↦ absurd (no_more_columns r sets sizes mode start before other level v u s.planes version fit t s.small x more after_s)
      ]
    ]

pub stuck_range_is_one : StuckRangeIsOne
stuck_range_is_one r sets sizes mode start before fault other plane level row v x u version fit s t =
    let there = t.stuck (rows_with before) (has_rows before) in
    let here = s.stuck (rows_with before) (has_rows before) in
    elim (parted s.done s.later t.done t.later (line_at plane row) (line_at level v) (sym s.order ∙ t.order)) [
      | shorter mid is ↦
          absurd (no_more_lines r sets sizes mode start before fault plane row x t.planes version fit s t.small mid there.line_start
          (subst (λ l. IsRowsRun mode (place_at start (rows_with before)) (lines_bits (slice_plane (slice_shape r sets sizes) t.planes) l) there.line_start) is there.lines_run))
      | longer mid is ↦
          absurd (no_more_lines r sets sizes mode start before other level v u s.planes version fit t s.small mid here.line_start
          (subst (λ l. IsRowsRun mode (place_at start (rows_with before)) (lines_bits (slice_plane (slice_shape r sets sizes) s.planes) l) here.line_start) is here.lines_run))
      | same_part is line ↦
          one_place r sets sizes mode start before fault other plane level row v x u version fit s t is (ap (λ l. l.plane) line) (ap (λ l. l.row) line)
    ]

-- ---- a reader finds the planes that are coded where it is

one_start : (at : Result Coder RangeFault) (a b : Coder) → at ≡ Ok a → at ≡ Ok b → b ≡ a
one_start at a b h k = same_ok b a (sym k ∙ h)

pub found_is_read : (r : RecordingValue) (sets : List ℕ) (sizes : List PlaneSize) (reader after : RangeLines) (planes others : List (List ℕ)) → IsInVersion3 r
    → All IsPlaneSize sizes → HaveEqualRows r sizes → IsSliceRead (slice_shape r sets sizes) reader after others
    → AreCodedAt (slice_shape r sets sizes) reader planes → others ≡ planes
found_is_read r sets sizes reader after planes others version fit equal h k =
    let here : k.start ≡ h.start = one_start reader.decoder.at h.start k.start h.from k.from in
    (one_range_reading r sets sizes reader.decoder.mode h.start h.end k.end (group_states reader) (group_states after) k.after others planes version fit equal h.coded
    (subst (λ c. ArePlanesCoded reader.decoder.mode (slice_shape r sets sizes) c (group_states reader) planes k.end k.after) here k.coded)).0

pub found_not_refused : (r : RecordingValue) (sets : List ℕ) (sizes : List PlaneSize) (reader : RangeLines) (planes : List (List ℕ)) (fault : LinesFault) → IsInVersion3 r
    → All IsPlaneSize sizes → IsSliceFaultOf (slice_shape r sets sizes) reader fault → AreCodedAt (slice_shape r sets sizes) reader planes
    → fault ≡ lines_faults.Memory
found_not_refused r sets sizes reader planes (lines_faults.Sample fault plane y x) version fit h k =
    let here : k.start ≡ h.0 = one_start reader.decoder.at h.0 k.start h.1 k.from in
    absurd (stuck_range_codes_nothing r sets sizes reader.decoder.mode h.0 k.end (group_states reader) k.after fault plane y x planes version fit h.2
    (subst (λ c. ArePlanesCoded reader.decoder.mode (slice_shape r sets sizes) c (group_states reader) planes k.end k.after) here k.coded))
found_not_refused r sets sizes reader planes lines_faults.Memory version fit h k = refl
