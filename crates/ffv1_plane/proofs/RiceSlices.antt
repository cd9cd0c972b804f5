-- The planes of a slice of Golomb-Rice codes, as its lines were read.
use Rattle.std.proofs.Common.{◌≡◌, ℕ, ◌^◌, ◌<◌, Bool, true, List, [], ◌∷◌, ◌++◌, length, map, get_or, sym, ap, ◌∙◌, subst, arith, append-nil, refl, get_or-set_same, ℤ}
use Rattle.std.specs.Prelude.{◌==◌, if◌then◌else◌, slice_index_or}
use Rattle.std.proofs.lemmas.List.{get_or-map, length-map}
use Rattle.ffv1_range.specs.Setup.{RecordingValue}
use Rattle.ffv1_rice.specs.declared.code.CodeFault.{CodeFault}
use Rattle.ffv1_plane.specs.Samples.{Plane, plane_of, coding_at}
use Rattle.ffv1_plane.specs.Spelling.{residuals_of, values_after, RowSpells}
use Rattle.ffv1_plane.specs.Progress.{AreStatesAfter}
use Rattle.ffv1_plane.specs.Stuck.{IsWordRefused}
use Rattle.ffv1_plane.specs.Lines.{Line, line_at, CodedPlanes, first_index, values_after_line, values_after_lines, LinesSpell}
use Rattle.ffv1_plane.specs.RangeSlices.{slice_shape, lines_of, size_at, height_at, coded_depth_of, slice_group, group_at, slice_plane, ArePlanesOfSizes}
use Rattle.ffv1_plane.specs.RiceSlices.{is_anew_at, slice_planes, AreGroupsAfter, AreCodesStuck}
use Rattle.ffv1_plane.specs.RiceReading.{group_codes, HaveSliceCodes, AreValuesOf, AreCodesDecoded, IsCodesFaultOf}
use Rattle.ffv1_plane.specs.Inner.Rows.{RowsRead}
use Rattle.ffv1_plane.specs.Inner.RangeLines.{no_rows, rows_at, planes_with, count_in}
use Rattle.ffv1_plane.specs.Inner.Planes.{coding_of_planes, AreNewPlanes}
use Rattle.ffv1_plane.specs.Inner.RiceLines.{rice_lines, codes_place, HaveDepth, AreCodesRead, AreCodesCut, IsCutFor}
use Rattle.ffv1_plane.specs.declared.planes.PlaneSize.{PlaneSize}
use Rattle.ffv1_plane.specs.declared.planes.SlicePlanes.{SlicePlanes}
use Rattle.ffv1_plane.specs.declared.rice_planes.OpenLines.{OpenLines}
use Rattle.ffv1_plane.specs.declared.rice_planes.CodesFault.{CodesFault}
use Rattle.ffv1_plane.specs.declared.rice_planes.CodesFault.TheVariants as codes_faults
use Rattle.ffv1_plane.proofs.RangeSlices.{AreBelow, none, followed, orders_below, order_counts, below_front, below_middle, group_small, new_row_at, new_count, plane_is_whole, part_is_read, with_part, part_more, part_of, part_small}

-- ---- the bits of lines are those of their planes

abbrev pub planes_as : (ℕ → Plane) → (ℕ → ℕ) → (Line → Bool) → CodedPlanes
planes_as plane group is_anew = record { plane = plane; group = group; is_anew = is_anew }

module _ (f g : ℕ → Plane) (group : ℕ → ℕ) (is_anew : Line → Bool) (n : ℕ) (same : (p : ℕ) → p < n → f p ≡ g p) where
  line_leaves_same : (values : ℕ → ℕ → List ℤ) (line : Line) → line.plane < n
      → values_after_line (planes_as f group is_anew) values line ≡ values_after_line (planes_as g group is_anew) values line
  unfolding values_after_line
  line_leaves_same values line less =
      let after : Plane → (ℕ → ℕ → List ℤ) = λ z k. if k == group line.plane then values_after (values k) (residuals_of z line.row) else values k in
      ap after (same line.plane less)

  lines_leave_same : (values : ℕ → ℕ → List ℤ) (lines : List Line) → AreBelow n lines
      → values_after_lines (planes_as f group is_anew) values lines ≡ values_after_lines (planes_as g group is_anew) values lines
  unfolding values_after_lines
  lines_leave_same values [] none = refl
  lines_leave_same values (line ∷ lines) (followed less h) =
      ap (λ v. values_after_lines (planes_as f group is_anew) v lines) (line_leaves_same values line less)
      ∙ lines_leave_same (values_after_line (planes_as g group is_anew) values line) lines h

  lines_spell_same : (values : ℕ → ℕ → List ℤ) (index : ℕ) (lines : List Line) (bits : List Bool) (next : ℕ) → AreBelow n lines
      → LinesSpell (planes_as f group is_anew) values index lines bits next → LinesSpell (planes_as g group is_anew) values index lines bits next
  unfolding LinesSpell
  lines_spell_same values index [] bits next none h = h
  lines_spell_same values index (line ∷ lines) bits next (followed less below) (front, back, between, joined, row, rest) = (
    front,
    back,
    between,
    joined,
    subst (λ (z : Plane). RowSpells (values (group line.plane)) (residuals_of z line.row) (first_index (planes_as g group is_anew) index line) front between)
        (same line.plane less) row,
    lines_spell_same (values_after_line (planes_as g group is_anew) values line) between lines back next below
        (subst (λ v. LinesSpell (planes_as f group is_anew) v between lines back next) (line_leaves_same values line less) rest),
  )

-- .. also where the groups are the same by an equation
pub leaves_as : (f g : ℕ → Plane) (a b : ℕ → ℕ) (is_anew : Line → Bool) (n : ℕ) (values : ℕ → ℕ → List ℤ) (lines : List Line) → ((p : ℕ) → p < n → f p ≡ g p) → a ≡ b
    → AreBelow n lines → values_after_lines (planes_as f a is_anew) values lines ≡ values_after_lines (planes_as g b is_anew) values lines
leaves_as f g a b is_anew n values lines same groups below =
    ap (λ k. values_after_lines (planes_as f k is_anew) values lines) groups ∙ lines_leave_same f g b is_anew n same values lines below

pub spells_as : (f g : ℕ → Plane) (a b : ℕ → ℕ) (is_anew : Line → Bool) (n : ℕ) (values : ℕ → ℕ → List ℤ) (index : ℕ) (lines : List Line) (bits : List Bool)
    (next : ℕ) → ((p : ℕ) → p < n → f p ≡ g p) → a ≡ b → AreBelow n lines → LinesSpell (planes_as f a is_anew) values index lines bits next
    → LinesSpell (planes_as g b is_anew) values index lines bits next
spells_as f g a b is_anew n values index lines bits next same groups below h =
    lines_spell_same f g b is_anew n same values index lines bits next below
    (subst (λ k. LinesSpell (planes_as f k is_anew) values index lines bits next) groups h)

-- ---- before the first row

new_depth : (r : RecordingValue) (sets : List ℕ) (sizes : List PlaneSize) (planes : SlicePlanes) → AreNewPlanes r sets sizes planes
    → HaveDepth (coded_depth_of r) planes.lines.items
new_depth r sets sizes planes new p less =
    ap (λ z. z.depth) (new_row_at r sets sizes planes p new (let count = new_count r sets sizes planes new in omega (arith, less, count)))

-- ---- a slice that was read

pub slice_is_decoded : (r : RecordingValue) (sets : List ℕ) (sizes : List PlaneSize) (planes now : SlicePlanes) (reader after : OpenLines)
    → AreNewPlanes r sets sizes planes → reader.codes.index ≡ 0 → HaveSliceCodes (slice_shape r sets sizes) (rice_lines reader)
    → ((p : ℕ) → p < length sizes → r.is_rgb ≡ true → height_at sizes p ≡ height_at sizes 0)
    → AreCodesRead r.is_rgb (coding_of_planes planes) (lines_of r.is_rgb sizes) planes.lines.items (codes_place reader) now.lines.items (codes_place after)
    → AreCodesDecoded (slice_shape r sets sizes) (rice_lines reader) (rice_lines after) (map (λ rows. rows.samples) now.lines.items)
slice_is_decoded r sets sizes planes now reader after new start states same h =
    let shape = slice_shape r sets sizes in
    let n = coded_depth_of r in
    let lines : List Line = lines_of r.is_rgb sizes in
    let c = coding_of_planes planes in
    let count : length now.lines.items ≡ length sizes = h.count ∙ new_count r sets sizes planes new in
    let samples : List (List ℕ) = map (λ (rows : RowsRead). rows.samples) now.lines.items in
    let f : ℕ → Plane = λ p. (planes_with c now.lines.items (λ q. []) p).plane in
    let g : ℕ → Plane = λ p. (slice_plane shape samples p).plane in
    let alike : (p : ℕ) → p < length sizes → f p ≡ g p = λ p less.
    ap (λ z. z.plane) (part_is_read r sets sizes planes now.lines.items (count_in p lines) p [] samples new less (h.grown p)
    (append-nil (rows_at now.lines.items p).samples ∙ sym (get_or-map (λ (z : RowsRead). z.samples) now.lines.items p no_rows [] (omega (arith, less, count))))) in
    let groups : c.group ≡ group_at shape = ap slice_group new.has_chroma in
    let below = orders_below r.is_rgb sizes in
    let sizes_are : ArePlanesOfSizes n sizes samples = record {
      count = length-map now.lines.items (λ (rows : RowsRead). rows.samples) ∙ count;
      each = λ p less.
          plane_is_whole r sets sizes planes now.lines.items new (count_in p lines) p less (omega (arith, less, count)) (h.grown p)
          (order_counts r.is_rgb sizes p less (same p less));
    } in
    record {
      sizes = sizes_are;
      states = λ p less. h.same_states (group_at shape p) (group_small r.setup.has_chroma p) ∙ states p less;
      spelled = λ values fresh.
          let one = h.spelled n (new_depth r sets sizes planes new) values fresh (λ q. []) in
          record {
            sizes = sizes_are;
            words = one.front;
            begins = one.begins;
            last = after.codes.index;
            spells =
                subst (λ i. LinesSpell (slice_planes shape samples) values i lines one.front after.codes.index) start
                (spells_as f g c.group (group_at shape) (is_anew_at r.is_rgb) (length sizes) values reader.codes.index lines one.front after.codes.index alike groups below
                one.spells);
          };
      left = λ values fresh.
          let one = h.spelled n (new_depth r sets sizes planes new) values fresh (λ q. []) in
          subst (λ v. AreGroupsAfter n v (group_codes (rice_lines after)))
          (leaves_as f g c.group (group_at shape) (is_anew_at r.is_rgb) (length sizes) values lines alike groups below) one.states_are;
    }

-- ---- a slice that is cut

pub slice_is_stuck : (r : RecordingValue) (sets : List ℕ) (sizes : List PlaneSize) (planes : SlicePlanes) (reader : OpenLines) (fault : CodeFault) (plane row x : ℕ)
    → AreNewPlanes r sets sizes planes → reader.codes.index ≡ 0
    → AreCodesCut r.is_rgb (coding_of_planes planes) (lines_of r.is_rgb sizes) planes.lines.items (codes_place reader) fault plane row x
    → (values : ℕ → ℕ → List ℤ) → AreValuesOf (slice_shape r sets sizes) values (rice_lines reader)
    → AreCodesStuck (slice_shape r sets sizes) values reader.codes.bits.left fault plane row x
slice_is_stuck r sets sizes planes reader fault plane row x new start k values fresh =
    let shape = slice_shape r sets sizes in
    let n = coded_depth_of r in
    let c = coding_of_planes planes in
    let count : length k.planes ≡ length sizes = k.read.count ∙ new_count r sets sizes planes new in
    let all_below = subst (AreBelow (length sizes)) k.order (orders_below r.is_rgb sizes) in
    let inside : plane < length sizes = below_middle (length sizes) k.done k.later (line_at plane row) all_below in
    let below = below_front (length sizes) k.done (line_at plane row ∷ k.later) all_below in
    let now : RowsRead = rows_at k.planes plane in
    let q = k.refused in
    let group : ℕ = c.group plane in
    let coding = coding_at now.depth (c.entry group) in
    let others : List (List ℕ) = with_part k.planes plane q.samples in
    let rest = part_more plane q.row in
    let f : ℕ → Plane = λ p. (planes_with c k.planes rest p).plane in
    let g : ℕ → Plane = λ p. (slice_plane shape others p).plane in
    let alike : (p : ℕ) → p < length sizes → f p ≡ g p = λ p less.
    ap (λ z. z.plane) (part_is_read r sets sizes planes k.planes (count_in p k.done) p (rest p) others new less (k.read.grown p)
    (part_of c k.planes plane p q.row q.samples (omega (arith, less, count)) q.pushed)) in
    let groups : c.group ≡ group_at shape = ap slice_group new.has_chroma in
    let samples_here : now.samples ++ q.row ≡ slice_index_or others plane [] =
    sym q.pushed
    ∙ sym (get_or-set_same (map (λ (z : RowsRead). z.samples) k.planes) plane q.samples []
    (omega (arith, k.inside, length-map k.planes (λ (z : RowsRead). z.samples)))) in
    let here : plane_of now.width coding (q.samples ++ []) ≡ g plane =
    ap (plane_of now.width coding) (append-nil q.samples ∙ q.pushed)
    ∙ ap (λ z. z.plane) (part_is_read r sets sizes planes k.planes (count_in plane k.done) plane q.row others new inside (k.read.grown plane) samples_here) in
    let row_width : now.width ≡ (size_at sizes plane).width =
    (k.read.grown plane).width ∙ ap (λ z. z.width) (new_row_at r sets sizes planes plane new inside) in
    let row_depth : now.depth ≡ n = (k.read.grown plane).depth ∙ ap (λ z. z.depth) (new_row_at r sets sizes planes plane new inside) in
    let one = k.read.spelled n (new_depth r sets sizes planes new) values fresh rest in
    let earlier : ℕ → ℕ → List ℤ = values_after_lines (planes_as f c.group (is_anew_at r.is_rgb)) values k.done in
    let first : ℕ = first_index (slice_planes shape others) k.here.index (line_at plane row) in
    let halted =
    q.halted row (earlier group) k.place
    (subst (λ d. AreStatesAfter d (earlier group) (k.here.states group)) (sym row_depth) (one.states_are group (group_small planes.has_chroma plane))) [] in
    let left : earlier group ≡ values_after_lines (slice_planes shape others) values k.done (group_at shape plane) =
    ap (λ v. v group) (leaves_as f g c.group (group_at shape) (is_anew_at r.is_rgb) (length sizes) values k.done alike groups below)
    ∙ ap (λ b. values_after_lines (slice_planes shape others) values k.done (slice_group b plane)) new.has_chroma in
    record {
      planes = others;
      small =
          part_small r sets sizes planes k.planes (λ p. count_in p k.done) plane q.samples new count k.read.grown inside
          (λ s. subst (λ d. get_or q.samples s 0 < 2 ^ d) row_depth (q.small s));
      done = k.done;
      later = k.later;
      order = k.order;
      inside = subst (λ w. x < w) row_width q.inside;
      whole = one.front;
      index = k.here.index;
      spells =
          subst (λ i. LinesSpell (slice_planes shape others) values i k.done one.front k.here.index) start
          (spells_as f g c.group (group_at shape) (is_anew_at r.is_rgb) (length sizes) values reader.codes.index k.done one.front k.here.index alike groups below one.spells);
      part = halted.part;
      others = halted.others;
      begins = one.begins ∙ ap (λ l. one.front ++ l) halted.begins;
      refused =
          subst (λ v. IsWordRefused v (residuals_of (g plane) row) first x halted.part halted.others fault) left
          (subst (λ (z : Plane). IsWordRefused (earlier group) (residuals_of z row) first x halted.part halted.others fault) here halted.refused);
    }

pub codes_fault_of : (r : RecordingValue) (sets : List ℕ) (sizes : List PlaneSize) (planes : SlicePlanes) (reader : OpenLines) (fault : CodesFault)
    → AreNewPlanes r sets sizes planes → reader.codes.index ≡ 0
    → IsCutFor r.is_rgb (coding_of_planes planes) (lines_of r.is_rgb sizes) planes.lines.items (codes_place reader) fault
    → IsCodesFaultOf (slice_shape r sets sizes) (rice_lines reader) fault
codes_fault_of r sets sizes planes reader (codes_faults.Sample fault plane y x) new start cut =
    slice_is_stuck r sets sizes planes reader fault plane y x new start cut
codes_fault_of r sets sizes planes reader codes_faults.Memory new start cut = tt
