-- The coded planes of a slice, as its lines were read.
use Rattle.std.proofs.Common.{◌≡◌, ℕ, zero, suc, ◌+◌, ◌*◌, ◌^◌, ◌<◌, ◌≤◌, eqb, nat_lt, ◌&&◌, Bool, true, false, List, [], ◌∷◌, ◌++◌, length, map, get_or, Result, Ok, nat_abs, refl, sym, ap, ◌∙◌, subst, arith, append-nil, inl, inr, lit<, set, get_or-set_same, get_or-set_other}
use Rattle.std.specs.Prelude.{if◌then◌else◌, slice_index, slice_index_or}
use Rattle.std.proofs.lemmas.Bool.{cases_eq, eq-eqb, ne_eqb}
use Rattle.std.proofs.lemmas.Nat.{pow_pos}
use Rattle.std.proofs.Math.Nat.{mul_comm}
use Rattle.std.proofs.lemmas.List.{get_or-map, length-map}
use Rattle.ffv1_range.specs.Setup.{RecordingValue, set_entry, set_contexts}
use Rattle.ffv1_range.specs.Rows.{IsRowsRun}
use Rattle.ffv1_range.specs.Coding.{Coder}
use Rattle.ffv1_range.specs.declared.coding.RangeFault.{RangeFault}
use Rattle.ffv1_range.proofs.Spelling.{same_ok}
use Rattle.ffv1_plane.specs.declared.range_rows.DifferenceFault.{DifferenceFault}
use Rattle.ffv1_plane.specs.Samples.{Coding, coding_at, neighbours_at, context_of, IsPlaneOfSize}
use Rattle.ffv1_plane.specs.Lines.{Line, line_at, lines_of_plane, plane_after_plane, lines_of_row, row_after_row}
use Rattle.ffv1_plane.specs.RangeRows.{RangePlane, row_bits, columns_bits, state_row, difference_form}
use Rattle.ffv1_plane.specs.RangeLines.{lines_bits}
use Rattle.ffv1_plane.specs.RangeSlices.{slice_shape, lines_of, size_at, height_at, no_size, coded_depth_of, slice_group, group_at, slice_plane, context_row, AreLinesStuck}
use Rattle.ffv1_plane.specs.Inner.Rows.{RowsRead}
use Rattle.ffv1_plane.specs.Inner.RangeRows.{at_place, range_plane, next_row}
use Rattle.ffv1_plane.specs.Inner.RangeLines.{PlanesCoding, no_rows, rows_at, plane_with, planes_with, count_in, IsGrown, AreSmall, AreLinesCut}
use Rattle.ffv1_plane.specs.Inner.Planes.{group_tables, coding_of_planes, lines_reader, new_rows, AreNewPlanes, HaveRead, IsFresh, IsLinesFaultOf}
use Rattle.ffv1_plane.specs.RangeReading.{group_states, HaveSliceStates, IsSliceRead, IsSliceFaultOf}
use Rattle.ffv1_plane.specs.declared.planes.LinesFault.{LinesFault}
use Rattle.ffv1_plane.specs.declared.planes.LinesFault.TheVariants as lines_faults
use Rattle.ffv1_plane.specs.declared.planes.RangeLines.{RangeLines}
use Rattle.ffv1_plane.specs.declared.planes.PlaneSize.{PlaneSize}
use Rattle.ffv1_plane.specs.declared.planes.SlicePlanes.{SlicePlanes}
use Rattle.ffv1_plane.specs.SetTables.{SetTables}
use Rattle.ffv1_plane.proofs.LineRuns.{count_in-append, count_rows, count_rows_other, count_planes, count_all_rows, grown_place}

-- ---- lines of some planes

-- the planes of all lines are below a number
pub data AreBelow (n : ℕ) : List Line → Type 0 where
  none : AreBelow n []
  followed : {line : Line} {lines : List Line} → line.plane < n → AreBelow n lines → AreBelow n (line ∷ lines)

below_both : (n : ℕ) (xs ys : List Line) → AreBelow n xs → AreBelow n ys → AreBelow n (xs ++ ys)
below_both n [] ys none k = k
below_both n (line ∷ xs) ys (followed less h) k = followed less (below_both n xs ys h k)

rows_below : (n p count : ℕ) → p < n → AreBelow n (lines_of_plane p count)
unfolding lines_of_plane
rows_below n p zero h = none
rows_below n p (suc count) h = below_both n (lines_of_plane p count) (line_at p count ∷ []) (rows_below n p count h) (followed h none)

pub planes_below : (height : ℕ → ℕ) (n count : ℕ) → count ≤ n → AreBelow n (plane_after_plane height count)
unfolding plane_after_plane
planes_below height n zero h = none
planes_below height n (suc count) h =
    below_both n (plane_after_plane height count) (lines_of_plane count (height count)) (planes_below height n count (omega (arith, h)))
    (rows_below n count (height count) (omega (arith, h)))

row_below : (row n count : ℕ) → count ≤ n → AreBelow n (lines_of_row row count)
unfolding lines_of_row
row_below row n zero h = none
row_below row n (suc count) h =
    below_both n (lines_of_row row count) (line_at count row ∷ []) (row_below row n count (omega (arith, h))) (followed (omega (arith, h)) none)

pub all_rows_below : (n height : ℕ) → AreBelow n (row_after_row n height)
unfolding row_after_row
all_rows_below n zero = none
all_rows_below n (suc height) = below_both n (row_after_row n height) (lines_of_row height n) (all_rows_below n height) (row_below height n n (omega arith))

-- the bits of lines are those of their planes
pub lines_bits_same : (f g : ℕ → RangePlane) (n : ℕ) (lines : List Line) → ((p : ℕ) → p < n → f p ≡ g p) → AreBelow n lines
    → lines_bits f lines ≡ lines_bits g lines
lines_bits_same f g n [] same none = refl
lines_bits_same f g n (line ∷ lines) same (followed less h) =
    ap (λ z. row_bits z line.row ++ lines_bits f lines) (same line.plane less)
    ∙ ap (λ l. row_bits (g line.plane) line.row ++ l) (lines_bits_same f g n lines same h)

-- ---- how many lines a plane has

pub count_planes_in : (height : ℕ → ℕ) (n p : ℕ) → p < n → count_in p (plane_after_plane height n) ≡ height p
unfolding plane_after_plane
count_planes_in height zero p h = absurd (omega (arith, h))
count_planes_in height (suc n) p h = count_in-append p (plane_after_plane height n) (lines_of_plane n (height n)) ∙ elim (cases_eq p n) [
  | inl same ↦
      let before = count_planes height n p (omega (arith, same)) in
      let here = subst (λ k. count_in k (lines_of_plane n (height n)) ≡ height k) (sym same) (count_rows n (height n)) in
      omega (arith, before, here)
  | inr apart ↦
      let before = count_planes_in height n p (omega (arith, h, apart)) in let none = count_rows_other n p (height n) (λ e. apart (sym e)) in
      omega (arith, before, none)
]

-- ---- groups

pub group_small : (has_chroma : Bool) (p : ℕ) → slice_group has_chroma p < 3
group_small has_chroma p = three (eqb p 0) (has_chroma && nat_lt p 3)
  where
    three : (first second : Bool) → (if first then 0 else if second then 1 else 2) < 3
    three true second = lit< tt
    three false true = lit< tt
    three false false = lit< tt

pub tables_of_group : (r : RecordingValue) (sets : List ℕ) (sizes : List PlaneSize) (planes : SlicePlanes) (group : ℕ) → group < 3 → AreNewPlanes r sets sizes planes
    → group_tables planes group ≡ record { setup = r.setup; set = slice_index sets group }
tables_of_group r sets sizes planes zero h new = new.luma
tables_of_group r sets sizes planes (suc zero) h new = new.chroma
tables_of_group r sets sizes planes (suc (suc zero)) h new = new.alpha
tables_of_group r sets sizes planes (suc (suc (suc group))) h new = absurd (omega (arith, h))

-- ---- planes

pub new_row_at : (r : RecordingValue) (sets : List ℕ) (sizes : List PlaneSize) (planes : SlicePlanes) (p : ℕ) → AreNewPlanes r sets sizes planes → p < length sizes
    → rows_at planes.lines.items p ≡ new_rows (coded_depth_of r) (size_at sizes p)
new_row_at r sets sizes planes p new h =
    ap (λ l. get_or l p no_rows) new.lines ∙ get_or-map (new_rows (coded_depth_of r)) sizes p no_size no_rows h

-- What the planes of a slice are once some lines were read.
module _ (r : RecordingValue) (sets : List ℕ) (sizes : List PlaneSize) (planes : SlicePlanes) (rows : List RowsRead) (new : AreNewPlanes r sets sizes planes) where
  pub plane_is_whole : (n p : ℕ) → p < length sizes → p < length rows → IsGrown n (rows_at planes.lines.items p) (rows_at rows p) → n ≡ height_at sizes p
      → IsPlaneOfSize (coded_depth_of r) (size_at sizes p).width (height_at sizes p) (slice_index_or (map (λ row. row.samples) rows) p [])
  plane_is_whole n p inside there grown count =
      let old = new_row_at r sets sizes planes p new inside in
      let row : RowsRead = rows_at rows p in
      let here : slice_index_or (map (λ z. z.samples) rows) p [] ≡ row.samples = get_or-map (λ (z : RowsRead). z.samples) rows p no_rows [] there in
      let empty : length (rows_at planes.lines.items p).samples ≡ 0 = ap (λ z. length z.samples) old in
      let width : row.width ≡ (size_at sizes p).width = grown.width ∙ ap (λ z. z.width) old in
      let depth : row.depth ≡ coded_depth_of r = grown.depth ∙ ap (λ z. z.depth) old in
      let long = grown_place n (height_at sizes p) (rows_at planes.lines.items p) row grown empty count in
      let fresh : AreSmall (rows_at planes.lines.items p) = subst AreSmall (sym old) (λ s. pow_pos (coded_depth_of r)) in
      record {
        count = ap length here ∙ long ∙ ap (λ w. height_at sizes p * w) width ∙ mul_comm (height_at sizes p) (size_at sizes p).width;
        small = λ s. subst (λ l. get_or l s 0 < 2 ^ coded_depth_of r) (sym here) (subst (λ d. get_or row.samples s 0 < 2 ^ d) depth (grown.small fresh s));
      }

-- a plane of a slice that is partly read
pub part_is_read : (r : RecordingValue) (sets : List ℕ) (sizes : List PlaneSize) (planes : SlicePlanes) (rows : List RowsRead) (n p : ℕ) (more : List ℕ)
    (others : List (List ℕ)) → AreNewPlanes r sets sizes planes → p < length sizes → IsGrown n (rows_at planes.lines.items p) (rows_at rows p)
    → (rows_at rows p).samples ++ more ≡ slice_index_or others p []
    → plane_with (coding_of_planes planes) p (rows_at rows p) more ≡ slice_plane (slice_shape r sets sizes) others p
part_is_read r sets sizes planes rows n p more others new inside grown is =
    let c = coding_of_planes planes in
    let old = new_row_at r sets sizes planes p new inside in
    let row : RowsRead = rows_at rows p in
    let here : List ℕ = slice_index_or others p [] in
    let group : slice_group planes.has_chroma p ≡ slice_group r.setup.has_chroma p = ap (λ b. slice_group b p) new.has_chroma in
    let entry : c.entry (c.group p) ≡ set_entry r.setup (slice_index sets (slice_group r.setup.has_chroma p)) =
    ap (λ g. c.entry g) group
    ∙ ap (λ (t : SetTables). set_entry t.setup t.set)
    (tables_of_group r sets sizes planes (slice_group r.setup.has_chroma p) (group_small r.setup.has_chroma p) new) in
    let width : row.width ≡ (size_at sizes p).width = grown.width ∙ ap (λ z. z.width) old in
    let depth : row.depth ≡ coded_depth_of r = grown.depth ∙ ap (λ z. z.depth) old in
    ap (λ s. range_plane row.width (coding_at row.depth (c.entry (c.group p))) (c.group p) c.is_signed s) is
    ∙ ap (λ w. range_plane w (coding_at row.depth (c.entry (c.group p))) (c.group p) c.is_signed here) width
    ∙ ap (λ d. range_plane (size_at sizes p).width (coding_at d (c.entry (c.group p))) (c.group p) c.is_signed here) depth
    ∙ ap (λ e. range_plane (size_at sizes p).width (coding_at (coded_depth_of r) e) (c.group p) c.is_signed here) entry
    ∙ ap (λ g. range_plane (size_at sizes p).width (coding_at (coded_depth_of r) (set_entry r.setup (slice_index sets (slice_group r.setup.has_chroma p)))) g c.is_signed
    here) group
    ∙ ap (λ b. range_plane (size_at sizes p).width (coding_at (coded_depth_of r) (set_entry r.setup (slice_index sets (slice_group r.setup.has_chroma p))))
    (slice_group r.setup.has_chroma p) b here) new.is_signed

-- ---- states, and planes before their first row

pub have_counts : (r : RecordingValue) (sets : List ℕ) (sizes : List PlaneSize) (planes : SlicePlanes) (count : ℕ → ℕ) → AreNewPlanes r sets sizes planes
    → ((p : ℕ) → p < length sizes → count (slice_group r.setup.has_chroma p) ≡ set_contexts r.setup (slice_index sets (slice_group r.setup.has_chroma p)))
    → (p : ℕ) → p < length planes.lines.items
    → count (slice_group planes.has_chroma p) ≡ set_contexts (group_tables planes (slice_group planes.has_chroma p)).setup (group_tables planes (slice_group planes.has_chroma p)).set
have_counts r sets sizes planes count new h p less =
    let inside : p < length sizes = omega (arith, less, ap length new.lines, length-map sizes (new_rows (coded_depth_of r))) in
    let tables = tables_of_group r sets sizes planes (slice_group r.setup.has_chroma p) (group_small r.setup.has_chroma p) new in
    subst (λ b. count (slice_group b p) ≡ set_contexts (group_tables planes (slice_group b p)).setup (group_tables planes (slice_group b p)).set) (sym new.has_chroma)
    (h p inside ∙ sym (ap (λ (t : SetTables). set_contexts t.setup t.set) tables))

pub are_fresh : (r : RecordingValue) (sets : List ℕ) (sizes : List PlaneSize) (planes : SlicePlanes) → AreNewPlanes r sets sizes planes
    → (p : ℕ) → p < length sizes → IsFresh (rows_at planes.lines.items p)
are_fresh r sets sizes planes new p less =
    let row = new_row_at r sets sizes planes p new less in
    record { ended = ap (λ z. z.x) row; empty = ap (λ z. length z.samples) row }

pub new_count : (r : RecordingValue) (sets : List ℕ) (sizes : List PlaneSize) (planes : SlicePlanes) → AreNewPlanes r sets sizes planes
    → length planes.lines.items ≡ length sizes
new_count r sets sizes planes new = ap length new.lines ∙ length-map sizes (new_rows (coded_depth_of r))

-- ---- whole orders

pub orders_below : (is_rgb : Bool) (sizes : List PlaneSize) → AreBelow (length sizes) (lines_of is_rgb sizes)
orders_below true sizes = all_rows_below (length sizes) (height_at sizes 0)
orders_below false sizes = planes_below (height_at sizes) (length sizes) (length sizes) (omega arith)

pub order_counts : (is_rgb : Bool) (sizes : List PlaneSize) (p : ℕ) → p < length sizes
    → (is_rgb ≡ true → height_at sizes p ≡ height_at sizes 0) → count_in p (lines_of is_rgb sizes) ≡ height_at sizes p
order_counts true sizes p less same = count_all_rows (length sizes) (height_at sizes 0) p less ∙ sym (same refl)
order_counts false sizes p less same = count_planes_in (height_at sizes) (length sizes) p less

pub below_front : (n : ℕ) (xs ys : List Line) → AreBelow n (xs ++ ys) → AreBelow n xs
below_front n [] ys h = none
below_front n (line ∷ xs) ys (followed less h) = followed less (below_front n xs ys h)

pub below_middle : (n : ℕ) (xs ys : List Line) (line : Line) → AreBelow n (xs ++ (line ∷ ys)) → line.plane < n
below_middle n [] ys line (followed less h) = less
below_middle n (x ∷ xs) ys line (followed less h) = below_middle n xs ys line h

-- ---- a slice that was read

pub slice_is_read : (r : RecordingValue) (sets : List ℕ) (sizes : List PlaneSize) (planes now : SlicePlanes) (reader after : RangeLines)
    → AreNewPlanes r sets sizes planes → HaveSliceStates (slice_shape r sets sizes) reader
    → ((p : ℕ) → p < length sizes → r.is_rgb ≡ true → height_at sizes p ≡ height_at sizes 0)
    → HaveRead planes reader (lines_of r.is_rgb sizes) now after
    → IsSliceRead (slice_shape r sets sizes) reader after (map (λ rows. rows.samples) now.lines.items)
slice_is_read r sets sizes planes now reader after new states same h =
    let shape = slice_shape r sets sizes in
    let count : length now.lines.items ≡ length sizes = h.read.count ∙ new_count r sets sizes planes new in
    let samples : List (List ℕ) = map (λ (rows : RowsRead). rows.samples) now.lines.items in
    let alike : (p : ℕ) → p < length sizes → planes_with (coding_of_planes planes) now.lines.items (λ q. []) p ≡ slice_plane shape samples p =
    λ p less. part_is_read r sets sizes planes now.lines.items (count_in p (lines_of r.is_rgb sizes)) p [] samples new less (h.read.grown p)
    (append-nil (rows_at now.lines.items p).samples ∙ sym (get_or-map (λ (z : RowsRead). z.samples) now.lines.items p no_rows [] (omega (arith, less, count)))) in
    let bits =
    lines_bits_same (planes_with (coding_of_planes planes) now.lines.items (λ q. [])) (slice_plane shape samples) (length sizes) (lines_of r.is_rgb sizes) alike
    (orders_below r.is_rgb sizes) in
    record {
      start = h.read.start;
      from = h.read.from;
      end = h.read.end;
      to = h.read.to;
      coded = record {
        sizes = record {
          count = length-map now.lines.items (λ (rows : RowsRead). rows.samples) ∙ count;
          each = λ p less.
              plane_is_whole r sets sizes planes now.lines.items new (count_in p (lines_of r.is_rgb sizes)) p less (omega (arith, less, count)) (h.read.grown p)
              (order_counts r.is_rgb sizes p less (same p less));
        };
        run = λ rows has.
            let run = h.read.coded (λ q. []) rows has in
            record {
              next = run.next;
              run = subst (λ b. IsRowsRun reader.decoder.mode (at_place h.read.start rows) b (at_place h.read.end run.next)) bits run.run;
              states = run.states;
            };
      };
      states = λ p less. h.read.same_states (group_at shape p) (group_small r.setup.has_chroma p) ∙ states p less;
    }

-- ---- a slice that is cut

-- the samples of planes with those of one that is partly read
abbrev pub with_part : List RowsRead → ℕ → List ℕ → List (List ℕ)
with_part rows plane part = set (map (λ (row : RowsRead). row.samples) rows) plane part

pub part_more : ℕ → List ℕ → ℕ → List ℕ
part_more plane part p = if eqb p plane then part else []

pub part_of : (c : PlanesCoding) (rows : List RowsRead) (plane p : ℕ) (part samples : List ℕ) → p < length rows → samples ≡ (rows_at rows plane).samples ++ part
    → (rows_at rows p).samples ++ part_more plane part p ≡ slice_index_or (with_part rows plane samples) p []
unfolding part_more
part_of c rows plane p part samples there pushed = elim (cases_eq p plane) [
  | inl same ↦
      let inside : plane < length (map (λ (row : RowsRead). row.samples) rows) = omega (arith, there, same, length-map rows (λ (row : RowsRead). row.samples)) in
      ap (λ b. (rows_at rows p).samples ++ (if b then part else [])) (eq-eqb p plane same) ∙ ap (λ q. (rows_at rows q).samples ++ part) same ∙ sym pushed
      ∙ sym (get_or-set_same (map (λ (row : RowsRead). row.samples) rows) plane samples [] inside)
      ∙ ap (λ q. get_or (with_part rows plane samples) q []) (sym same)
  | inr apart ↦
      ap (λ b. (rows_at rows p).samples ++ (if b then part else [])) (ne_eqb p plane apart) ∙ append-nil (rows_at rows p).samples
      ∙ sym (get_or-map (λ (row : RowsRead). row.samples) rows p no_rows [] there)
      ∙ sym (get_or-set_other (map (λ (row : RowsRead). row.samples) rows) plane p samples [] apart)
]

-- samples of planes, one of them in part, have the bits of the depth
pub part_small : (r : RecordingValue) (sets : List ℕ) (sizes : List PlaneSize) (planes : SlicePlanes) (rows : List RowsRead) (count : ℕ → ℕ) (plane : ℕ) (samples : List ℕ)
    → AreNewPlanes r sets sizes planes → length rows ≡ length sizes → ((p : ℕ) → IsGrown (count p) (rows_at planes.lines.items p) (rows_at rows p))
    → plane < length sizes → ((s : ℕ) → get_or samples s 0 < 2 ^ coded_depth_of r)
    → (p : ℕ) → p < length sizes → (s : ℕ) → get_or (slice_index_or (with_part rows plane samples) p []) s 0 < 2 ^ coded_depth_of r
part_small r sets sizes planes rows count plane samples new long grown inside small p less s = elim (cases_eq p plane) [
  | inl same ↦
      let there : plane < length (map (λ (row : RowsRead). row.samples) rows) = omega (arith, inside, long, length-map rows (λ (row : RowsRead). row.samples)) in
      subst (λ l. get_or l s 0 < 2 ^ coded_depth_of r)
      (sym (ap (λ q. slice_index_or (with_part rows plane samples) q []) same ∙ get_or-set_same (map (λ (row : RowsRead). row.samples) rows) plane samples [] there)) (small s)
  | inr apart ↦
      let old = new_row_at r sets sizes planes p new less in
      let fresh : AreSmall (rows_at planes.lines.items p) = subst AreSmall (sym old) (λ s. pow_pos (coded_depth_of r)) in
      let depth : (rows_at rows p).depth ≡ coded_depth_of r = (grown p).depth ∙ ap (λ z. z.depth) old in
      let here : slice_index_or (with_part rows plane samples) p [] ≡ (rows_at rows p).samples =
      get_or-set_other (map (λ (row : RowsRead). row.samples) rows) plane p samples [] apart
      ∙ get_or-map (λ (row : RowsRead). row.samples) rows p no_rows [] (omega (arith, less, long)) in
      subst (λ l. get_or l s 0 < 2 ^ coded_depth_of r) (sym here) (subst (λ d. get_or (rows_at rows p).samples s 0 < 2 ^ d) depth ((grown p).small fresh s))
]

same_coder : (at : Result Coder RangeFault) (a b : Coder) → at ≡ Ok a → at ≡ Ok b → b ≡ a
same_coder at a b h k = same_ok b a (sym k ∙ h)

-- the row of states of the next sample of a plane
next_context : (w : ℕ) (coding : Coding) (group : ℕ) (is_signed : Bool) (samples : List ℕ) (n : ℕ) → n ≡ length samples
    → context_row (range_plane w coding group is_signed (samples ++ [])) n ≡ state_row group (next_row w coding samples)
next_context w coding group is_signed samples n here =
    ap (λ l. state_row group (nat_abs (context_of coding.entry (neighbours_at w l n)))) (append-nil samples)
    ∙ ap (λ k. state_row group (nat_abs (context_of coding.entry (neighbours_at w samples k)))) here

pub slice_is_cut : (r : RecordingValue) (sets : List ℕ) (sizes : List PlaneSize) (planes : SlicePlanes) (reader : RangeLines) (fault : DifferenceFault) (plane row x : ℕ)
    → AreNewPlanes r sets sizes planes
    → AreLinesCut (coding_of_planes planes) (lines_of r.is_rgb sizes) planes.lines.items (lines_reader reader) fault plane row x
    → (start : Coder) × (reader.decoder.at ≡ Ok start)
    × AreLinesStuck reader.decoder.mode (slice_shape r sets sizes) start (group_states reader) fault plane row x
slice_is_cut r sets sizes planes reader fault plane row x new k =
    let c = coding_of_planes planes in
    let shape = slice_shape r sets sizes in
    let mode = reader.decoder.mode in
    let count : length k.planes ≡ length sizes = k.read.count ∙ new_count r sets sizes planes new in
    let below = subst (AreBelow (length sizes)) k.order (orders_below r.is_rgb sizes) in
    let inside : plane < length sizes = below_middle (length sizes) k.done k.later (line_at plane row) below in
    let now : RowsRead = rows_at k.planes plane in
    let q = k.refused in
    let group : ℕ = c.group plane in
    let coding = coding_at now.depth (c.entry group) in
    let others : List (List ℕ) = with_part k.planes plane q.samples in
    let rest = part_more plane q.read.row in
    let alike : (p : ℕ) → p < length sizes → planes_with c k.planes rest p ≡ slice_plane shape others p = λ p less.
    part_is_read r sets sizes planes k.planes (count_in p k.done) p (rest p) others new less (k.read.grown p)
    (part_of c k.planes plane p q.read.row q.samples (omega (arith, less, count)) q.read.pushed) in
    let bits = lines_bits_same (planes_with c k.planes rest) (slice_plane shape others) (length sizes) k.done alike
    (below_front (length sizes) k.done (line_at plane row ∷ k.later) below) in
    let samples_here : now.samples ++ q.read.row ≡ slice_index_or others plane [] =
    sym q.read.pushed
    ∙ sym (get_or-set_same (map (λ (z : RowsRead). z.samples) k.planes) plane q.samples []
    (omega (arith, k.inside, length-map k.planes (λ (z : RowsRead). z.samples)))) in
    let here : range_plane now.width coding group c.is_signed (q.samples ++ []) ≡ slice_plane shape others plane =
    ap (λ l. range_plane now.width coding group c.is_signed l) (append-nil q.samples ∙ q.read.pushed)
    ∙ part_is_read r sets sizes planes k.planes (count_in plane k.done) plane q.read.row others new inside (k.read.grown plane) samples_here in
    let row_width : now.width ≡ (size_at sizes plane).width =
    (k.read.grown plane).width ∙ ap (λ z. z.width) (new_row_at r sets sizes planes plane new inside) in
    let row_depth : now.depth ≡ coded_depth_of r =
    (k.read.grown plane).depth ∙ ap (λ z. z.depth) (new_row_at r sets sizes planes plane new inside) in
    let line_mode : k.reader.reader.mode ≡ mode = ap (λ z. z.mode) k.read.to in
    let last_mode : q.reader.mode ≡ mode = ap (λ z. z.mode) q.read.to ∙ line_mode in
    let line_start : q.read.start ≡ k.read.end = same_coder k.reader.reader.at k.read.end q.read.start (ap (λ z. z.at) k.read.to) q.read.from in
    let last_start : q.refused.start ≡ q.read.end = same_coder q.reader.at q.read.end q.refused.start (ap (λ z. z.at) q.read.to) q.refused.from in
    let column : row * now.width + x ≡ length q.samples = (let longer = q.read.count in let place = k.place in omega (arith, longer, place)) in
    let state : context_row (slice_plane shape others plane) (row * (size_at sizes plane).width + x) ≡ state_row group (next_row now.width coding q.samples) =
    ap (λ w. context_row (slice_plane shape others plane) (row * w + x)) (sym row_width)
    ∙ ap (λ z. context_row z (row * now.width + x)) (sym here)
    ∙ next_context now.width coding group c.is_signed q.samples (row * now.width + x) column in (
      k.read.start,
      k.read.from,
      record {
        planes = others;
        small =
            part_small r sets sizes planes k.planes (λ p. count_in p k.done) plane q.samples new count k.read.grown inside
            (λ s. subst (λ d. get_or q.samples s 0 < 2 ^ d) row_depth (q.small s));
        done = k.done;
        later = k.later;
        order = k.order;
        inside = subst (λ w. x < w) row_width q.inside;
        stuck = λ rows has.
            let run = k.read.coded rest rows has in
            let columns = q.read.coded [] row k.place run.next (run.states group (group_small planes.has_chroma plane)) in
            let states = columns.states (next_row now.width coding q.samples) q.refused.below in
            record {
              line_start = at_place k.read.end run.next;
              lines_run = subst (λ b. IsRowsRun mode (at_place k.read.start rows) b (at_place k.read.end run.next)) bits run.run;
              here = at_place q.read.end columns.next;
              columns_run =
                  subst (λ m. IsRowsRun m (at_place k.read.end run.next) (columns_bits (slice_plane shape others plane) row x) (at_place q.read.end columns.next)) line_mode
                  (subst (λ z. IsRowsRun k.reader.reader.mode (at_place k.read.end run.next) (columns_bits z row x) (at_place q.read.end columns.next)) here
                  (subst (λ a. IsRowsRun k.reader.reader.mode (at_place a run.next)
                  (columns_bits (range_plane now.width coding group c.is_signed (q.samples ++ [])) row x) (at_place q.read.end columns.next)) line_start columns.run));
              refused =
                  ap (λ n. difference_form (coded_depth_of r) mode (at_place q.read.end (columns.next n))) state
                  ∙ ap (λ l. difference_form (coded_depth_of r) mode (at_place q.read.end l)) states
                  ∙ ap (λ d. difference_form d mode (at_place q.read.end (slice_index_or q.after (next_row now.width coding q.samples) []))) (sym row_depth)
                  ∙ ap (λ m. difference_form now.depth m (at_place q.read.end (slice_index_or q.after (next_row now.width coding q.samples) []))) (sym last_mode)
                  ∙ ap (λ a. difference_form now.depth q.reader.mode (at_place a (slice_index_or q.after (next_row now.width coding q.samples) []))) (sym last_start)
                  ∙ q.refused.refused;
            };
      },
    )

pub slice_fault_of : (r : RecordingValue) (sets : List ℕ) (sizes : List PlaneSize) (planes : SlicePlanes) (reader : RangeLines) (fault : LinesFault)
    → AreNewPlanes r sets sizes planes → IsLinesFaultOf (coding_of_planes planes) (lines_of r.is_rgb sizes) planes.lines.items (lines_reader reader) fault
    → IsSliceFaultOf (slice_shape r sets sizes) reader fault
slice_fault_of r sets sizes planes reader (lines_faults.Sample fault plane y x) new cut = slice_is_cut r sets sizes planes reader fault plane y x new cut
slice_fault_of r sets sizes planes reader lines_faults.Memory new cut = tt
