-- The first rows of range-coded planes stand alone.
use Rattle.std.proofs.Common.{◌≡◌, ℕ, zero, suc, ◌+◌, ◌*◌, ◌^◌, ◌<◌, ◌≤◌, Bool, true, List, [], ◌∷◌, ◌++◌, length, get_or, refl, sym, ap, ◌∙◌, subst, arith, inl, inr, nat_abs}
use Rattle.std.specs.Prelude.{if◌then◌else◌, slice_index, slice_index_or}
use Rattle.std.specs.List.{All}
use Rattle.std.proofs.lemmas.Bool.{cases_eq}
use Rattle.std.proofs.lemmas.List.{map-append}
use Rattle.std.proofs.lemmas.Grind.{flat_map-append}
use Rattle.ffv1_range.specs.Coding.{Mode, Coder, Place, PlaceOf, IsRangeRun}
use Rattle.ffv1_range.specs.Rows.{Rows, with_row, RowBits, IsRowsRun}
use Rattle.ffv1_range.specs.Symbols.{signed_symbol_bits}
use Rattle.ffv1_range.specs.Setup.{RecordingValue, IsInVersion3, set_entry}
use Rattle.ffv1_range.proofs.RowRuns.{rows_split, with_row-same, with_row-other}
use Rattle.ffv1_plane.specs.Samples.{Plane, Coding, SamplesAbout, neighbours_at, prediction_of, context_of, difference_of}
use Rattle.ffv1_plane.specs.Spelling.{columns_before}
use Rattle.ffv1_plane.specs.Lines.{Line, line_at, row_after_row}
use Rattle.ffv1_plane.specs.RangeRows.{RangePlane, signed_prediction_of, state_row, sample_bits, columns_bits, row_bits}
use Rattle.ffv1_plane.specs.RangeLines.{line_bits, lines_bits}
use Rattle.ffv1_plane.specs.RangeSlices.{slice_shape, lines_of, size_at, height_at, coded_depth_of, are_signed, group_at, slice_plane, place_at, ArePlanesCoded}
use Rattle.ffv1_plane.specs.RangeReading.{IsPlaneSize}
use Rattle.ffv1_plane.specs.FirstRows.{rows_to, HaveGroupStates, RowsBeforeAreCoded, FirstRowsAreCoded}
use Rattle.ffv1_plane.specs.Inner.RangeRows.{range_plane}
use Rattle.ffv1_plane.specs.declared.planes.PlaneSize.{PlaneSize}
use Rattle.ffv1_plane.proofs.Contexts.{context_fits}
use Rattle.ffv1_plane.proofs.LineRuns.{all_rows_begin}
use Rattle.ffv1_plane.proofs.OneRange.{rows_with, has_rows}
use Rattle.ffv1_plane.proofs.RangeSlices.{AreBelow, none, followed, group_small, all_rows_below, orders_below, below_middle}
use Rattle.ffv1_plane.proofs.SameRows.{HaveSameRows, neighbours_there, sample_there, AreRowsBelow, no_line, line_then, all_rows_are_below, rows_before, planes_made, planes_made_at, length-planes_made}
use Rattle.ffv1_plane.proofs.FirstCodes.{first_planes, first_order, first_sizes, same_first_rows, are_first_rows}

-- ---- bits at rows of states that the groups have

pub record IsStateRow (before : ℕ → List (List ℕ)) (row : ℕ) : Type 0 where
  pub group : ℕ
  pub index : ℕ
  pub few : group < 3
  pub inside : index < length (before group)
  pub is : row ≡ state_row group index

pub data AreStateBits (before : ℕ → List (List ℕ)) : List RowBits → Type 0 where
  no_bits : AreStateBits before []
  bits_then : {bits : RowBits} {others : List RowBits} → IsStateRow before bits.0 → AreStateBits before others → AreStateBits before (bits ∷ others)

state_bits_both : (before : ℕ → List (List ℕ)) (xs ys : List RowBits) → AreStateBits before xs → AreStateBits before ys → AreStateBits before (xs ++ ys)
state_bits_both before [] ys no_bits k = k
state_bits_both before (x ∷ xs) ys (bits_then row h) k = bits_then row (state_bits_both before xs ys h k)

-- two lists of rows have the same states of each group
AgreeOn : (ℕ → List (List ℕ)) → Rows → Rows → Type 0
AgreeOn before rows others = (group k : ℕ) → group < 3 → k < length (before group) → rows (state_row group k) ≡ others (state_row group k)

agree_with : (before : ℕ → List (List ℕ)) (rows others : Rows) (number : ℕ) (row : List ℕ) → AgreeOn before rows others
    → AgreeOn before (with_row rows number row) (with_row others number row)
unfolding AgreeOn
agree_with before rows others number row agree group k few inside = elim (cases_eq (state_row group k) number) [
  | inl same ↦
      subst (λ n. with_row rows number row n ≡ with_row others number row n) (sym same)
      (with_row-same rows number row ∙ sym (with_row-same others number row))
  | inr apart ↦
      with_row-other rows number (state_row group k) row apart ∙ agree group k few inside ∙ sym (with_row-other others number (state_row group k) row apart)
]

row_agrees : (before : ℕ → List (List ℕ)) (rows others : Rows) (row : ℕ) → AgreeOn before rows others → IsStateRow before row → rows row ≡ others row
unfolding AgreeOn
row_agrees before rows others row agree h = ap rows h.is ∙ agree h.group h.index h.few h.inside ∙ ap others (sym h.is)

-- so bits at them end at one place from both
record EndsAlike (mode : Mode) (before : ℕ → List (List ℕ)) (bits : List RowBits) (c : Coder) (others : Rows) (end : PlaceOf Rows) : Type 0 where
  next : Rows
  run : IsRowsRun mode (place_at c others) bits (place_at end.coder next)
  agree : AgreeOn before end.states next

ends_alike : (mode : Mode) (before : ℕ → List (List ℕ)) (bits : List RowBits) (c : Coder) (rows others : Rows) (end : PlaceOf Rows) → AreStateBits before bits
    → AgreeOn before rows others → IsRowsRun mode (place_at c rows) bits end → EndsAlike mode before bits c others end
unfolding IsRowsRun
ends_alike mode before [] c rows others end no_bits agree h =
    record { next = others; run = ap (λ (z : PlaceOf Rows). place_at z.coder others) h; agree = subst (λ (z : PlaceOf Rows). AgreeOn before z.states others) h agree }
ends_alike mode before (x ∷ xs) c rows others end (bits_then row more) agree h =
    let m : Place = h.0 in
    let same = row_agrees before rows others x.0 agree row in
    let rest =
    ends_alike mode before xs m.coder (with_row rows x.0 m.states) (with_row others x.0 m.states) end more (agree_with before rows others x.0 m.states agree) h.2 in
    record {
      next = rest.next;
      run = (m, subst (λ (s : List ℕ). IsRangeRun mode (record { coder = c; states = s }) x.1 m) same h.1, rest.run);
      agree = rest.agree;
    }

columns_grow : (r : RangePlane) (y x : ℕ) → columns_bits r y (suc x) ≡ columns_bits r y x ++ sample_bits r (y * r.plane.width + x) ∷ []
unfolding columns_before
columns_grow r y x = map-append (λ column. sample_bits r (y * r.plane.width + column)) (columns_before x) (x ∷ [])

-- the bits of a slice's planes are at such rows
module _ (r : RecordingValue) (sets : List ℕ) (sizes : List PlaneSize) (before : ℕ → List (List ℕ)) (version : IsInVersion3 r)
    (states : HaveGroupStates (slice_shape r sets sizes) before) (planes : List (List ℕ)) where
  sample_at_states : (p s : ℕ) → p < length sizes → IsStateRow before (sample_bits (slice_plane (slice_shape r sets sizes) planes p) s).0
  unfolding sample_bits
  sample_at_states p s less =
      let group : ℕ = group_at (slice_shape r sets sizes) p in
      let few : group < 3 = group_small r.setup.has_chroma p in
      let near = neighbours_at (size_at sizes p).width (slice_index_or planes p []) s in
      let context : ℕ = nat_abs (context_of (set_entry r.setup (slice_index sets group)) near) in
      record {
        group = group;
        index = context;
        few = few;
        inside =
            subst (λ n. context < n) (sym (states.count p less)) (context_fits r.setup (slice_index sets group) near version.contexts (states.there group few));
        is = refl;
      }

  columns_at_states : (p y x : ℕ) → p < length sizes → AreStateBits before (columns_bits (slice_plane (slice_shape r sets sizes) planes p) y x)
  unfolding columns_before
  columns_at_states p y zero less = no_bits
  columns_at_states p y (suc x) less =
      let g = slice_plane (slice_shape r sets sizes) planes p in
      subst (AreStateBits before) (sym (columns_grow g y x))
      (state_bits_both before (columns_bits g y x) (sample_bits g (y * g.plane.width + x) ∷ []) (columns_at_states p y x less)
      (bits_then (sample_at_states p (y * g.plane.width + x) less) no_bits))

  lines_at_states : (lines : List Line) → AreBelow (length sizes) lines → AreStateBits before (lines_bits (slice_plane (slice_shape r sets sizes) planes) lines)
  lines_at_states [] none = no_bits
  lines_at_states (line ∷ lines) (followed less h) =
      let g = slice_plane (slice_shape r sets sizes) planes in
      state_bits_both before (row_bits (g line.plane) line.row) (lines_bits g lines) (columns_at_states line.plane line.row (g line.plane).plane.width less)
      (lines_at_states lines h)

-- ---- lines of planes whose first rows are the same

abbrev range_as : Plane → ℕ → Bool → RangePlane
range_as plane group is_signed = record { plane = plane; group = group; is_signed = is_signed }

module _ (rows y w : ℕ) (coding : Coding) (group : ℕ) (is_signed : Bool) (xs ys : List ℕ) (some : 1 ≤ w) (inside : y < rows)
    (same : (j : ℕ) → j < rows * w → get_or xs j 0 ≡ get_or ys j 0) where
  sample_bits_same : (x : ℕ) → x < w
      → sample_bits (range_plane w coding group is_signed xs) (y * w + x) ≡ sample_bits (range_plane w coding group is_signed ys) (y * w + x)
  unfolding sample_bits
  sample_bits_same x less =
      let bits : SamplesAbout → ℕ → RowBits = λ n sample. (
        state_row group (nat_abs (context_of coding.entry n)),
        signed_symbol_bits (difference_of coding.depth (context_of coding.entry n) (if is_signed then signed_prediction_of n else prediction_of n) sample),
      ) in
      ap (λ n. bits n (get_or xs (y * w + x) 0)) (neighbours_there rows y w coding xs ys some inside same x less)
      ∙ ap (bits (neighbours_at w ys (y * w + x))) (sample_there rows y w coding xs ys some inside same x less)

  columns_bits_same : (x : ℕ) → x ≤ w → columns_bits (range_plane w coding group is_signed xs) y x ≡ columns_bits (range_plane w coding group is_signed ys) y x
  unfolding columns_before
  columns_bits_same zero fits = refl
  columns_bits_same (suc x) fits =
      let f = range_plane w coding group is_signed xs in
      let g = range_plane w coding group is_signed ys in
      columns_grow f y x
      ∙ ap (λ l. l ++ sample_bits f (y * w + x) ∷ []) (columns_bits_same x (omega (arith, fits)))
      ∙ ap (λ b. columns_bits g y x ++ b ∷ []) (sample_bits_same x (omega (arith, fits)))
      ∙ sym (columns_grow g y x)

row_bits_same : (rows y : ℕ) (a b : Plane) (group : ℕ) (is_signed : Bool) → HaveSameRows rows a b → y < rows
    → row_bits (range_as a group is_signed) y ≡ row_bits (range_as b group is_signed) y
row_bits_same rows y a b group is_signed h inside =
    ap (λ z. row_bits (range_as z group is_signed) y) h.first
    ∙ columns_bits_same rows y h.width h.coding group is_signed h.xs h.ys h.some inside h.same h.width (omega arith)
    ∙ ap (λ z. row_bits (range_as z group is_signed) y) (sym h.second)

module _ (f g : ℕ → Plane) (group : ℕ → ℕ) (is_signed : Bool) (n rows : ℕ) (same : (p : ℕ) → p < n → HaveSameRows rows (f p) (g p)) where
  first_bits_same : (lines : List Line) → AreBelow n lines → AreRowsBelow rows lines
      → lines_bits (λ p. range_as (f p) (group p) is_signed) lines ≡ lines_bits (λ p. range_as (g p) (group p) is_signed) lines
  first_bits_same [] none no_line = refl
  first_bits_same (line ∷ lines) (followed less below) (line_then inside first) =
      ap (λ l. l ++ lines_bits (λ p. range_as (f p) (group p) is_signed) lines)
      (row_bits_same rows line.row (f line.plane) (g line.plane) (group line.plane) is_signed (same line.plane less) inside)
      ∙ ap (λ l. row_bits (range_as (g line.plane) (group line.plane) is_signed) line.row ++ l) (first_bits_same lines below first)

-- ---- the laws

-- the states of each group at rows of states
states_at : (ℕ → List (List ℕ)) → Rows → ℕ → List (List ℕ)
states_at before rows group = planes_made (λ k. rows (state_row group k)) (length (before group))

-- lines of the first rows, as those of a slice that has no others
first_are_coded : (r : RecordingValue) (sets : List ℕ) (sizes : List PlaneSize) (mode : Mode) (start : Coder) (before : ℕ → List (List ℕ)) (y : ℕ)
    (planes : List (List ℕ)) (end : PlaceOf Rows) → IsInVersion3 r → All IsPlaneSize sizes → HaveGroupStates (slice_shape r sets sizes) before → r.is_rgb ≡ true
    → 1 ≤ length sizes → ((p : ℕ) → p < length sizes → (s : ℕ) → get_or (slice_index_or planes p []) s 0 < 2 ^ coded_depth_of r)
    → IsRowsRun mode (place_at start (rows_with before)) (lines_bits (slice_plane (slice_shape r sets sizes) planes) (row_after_row (length sizes) y)) end
    → ArePlanesCoded mode (slice_shape r sets (rows_to y sizes)) start before (first_planes sizes y planes) end.coder (states_at before end.states)
unfolding AgreeOn states_at
first_are_coded r sets sizes mode start before y planes end version fit states rgb some small run =
    let shape = slice_shape r sets sizes in
    let firsts = slice_shape r sets (rows_to y sizes) in
    let lines : List Line = row_after_row (length sizes) y in
    let bits =
    first_bits_same (λ p. (slice_plane shape planes p).plane) (λ p. (slice_plane firsts (first_planes sizes y planes) p).plane) (group_at shape) (are_signed r)
    (length sizes) y (λ p less. same_first_rows r sets sizes y planes p fit less) lines (all_rows_below (length sizes) y) (all_rows_are_below (length sizes) y) in
    record {
      sizes = first_sizes (coded_depth_of r) sizes y planes small;
      run = λ rows has.
          let agree : AgreeOn before (rows_with before) rows = λ group k few inside. has_rows before group few k inside ∙ sym (has group few k inside) in
          let moved =
          ends_alike mode before (lines_bits (slice_plane shape planes) lines) start (rows_with before) rows end
          (lines_at_states r sets sizes before version states planes lines (all_rows_below (length sizes) y)) agree run in
          record {
            next = moved.next;
            run =
                subst (λ l. IsRowsRun mode (place_at start rows) (lines_bits (slice_plane firsts (first_planes sizes y planes)) l) (place_at end.coder moved.next))
                (first_order r sizes y rgb some)
                (subst (λ b. IsRowsRun mode (place_at start rows) b (place_at end.coder moved.next)) bits moved.run);
            states = λ group few k inside.
                let within : k < length (before group) =
                (let long = length-planes_made (λ i. end.states (state_row group i)) (length (before group)) in omega (arith, inside, long)) in
                sym (moved.agree group k few within) ∙ sym (planes_made_at (λ i. end.states (state_row group i)) (length (before group)) k within);
          };
    }

pub rows_before_are_coded : RowsBeforeAreCoded
rows_before_are_coded r sets sizes mode start before fault plane y x version fit states rgb s =
    let order : row_after_row (length sizes) (height_at sizes 0) ≡ s.done ++ line_at plane y ∷ s.later =
    ap (λ b. lines_of b sizes) (sym rgb) ∙ s.order in
    let inside : plane < length sizes =
    below_middle (length sizes) s.done s.later (line_at plane y) (subst (AreBelow (length sizes)) s.order (orders_below r.is_rgb sizes)) in
    let rows = rows_before (length sizes) (height_at sizes 0) s.done s.later plane y order in
    let g = slice_plane (slice_shape r sets sizes) s.planes in
    let lines : List Line = row_after_row (length sizes) y in
    let st = s.stuck (rows_with before) (has_rows before) in
    let front =
    rows_split mode (lines_bits g lines) (lines_bits g rows.0) (place_at start (rows_with before)) st.line_start
    (subst (λ b. IsRowsRun mode (place_at start (rows_with before)) b st.line_start) (ap (lines_bits g) rows.1 ∙ flat_map-append (line_bits g) lines rows.0) st.lines_run) in (
      first_planes sizes y s.planes,
      front.0.coder,
      states_at before front.0.states,
      first_are_coded r sets sizes mode start before y s.planes front.0 version fit states rgb (omega (arith, inside)) s.small front.1,
    )

pub first_rows_are_coded : FirstRowsAreCoded
first_rows_are_coded r sets sizes mode start end before after planes y version fit some equal states rgb most h =
    let rows = all_rows_begin (length sizes) (height_at sizes 0) y most in
    let order : lines_of r.is_rgb sizes ≡ row_after_row (length sizes) y ++ rows.0 = ap (λ b. lines_of b sizes) rgb ∙ rows.1 in
    let g = slice_plane (slice_shape r sets sizes) planes in
    let lines : List Line = row_after_row (length sizes) y in
    let run = h.run (rows_with before) (has_rows before) in
    let last : PlaceOf Rows = place_at end run.next in
    let front =
    rows_split mode (lines_bits g lines) (lines_bits g rows.0) (place_at start (rows_with before)) last
    (subst (λ b. IsRowsRun mode (place_at start (rows_with before)) b last) (ap (lines_bits g) order ∙ flat_map-append (line_bits g) lines rows.0) run.run) in (
      first_planes sizes y planes,
      front.0.coder,
      states_at before front.0.states,
      are_first_rows (coded_depth_of r) sizes y (height_at sizes 0) planes h.sizes most (λ p less. equal rgb p less),
      first_are_coded r sets sizes mode start before y planes front.0 version fit states rgb some (λ p less. (h.sizes.each p less).small) front.1,
    )
