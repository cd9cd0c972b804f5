-- The coded planes of a slice: what they keep, and that a content codes one list of them.
use Rattle.std.proofs.Common.{◌≡◌, ℕ, ◌+◌, ◌*◌, ◌^◌, ◌<◌, ◌≤◌, Bool, true, false, List, [], ◌∷◌, length, drop, Result, Ok, sym, ap, ◌∙◌, subst, arith, ⊎_elim, zero, suc, ℤ, refl}
use Rattle.std.specs.Prelude.{Option, slice_index, ◌||◌, if◌then◌else◌}
use Rattle.std.proofs.lemmas.Bool.{cases_lt}
use Rattle.std.proofs.lemmas.Nat.{pow_pos}
use Rattle.std.proofs.lemmas.List.{get_or_past, ext_get_or}
use Rattle.ffv1_range.specs.Coding.{Mode, Coder, Place, PlaceOf, slot_at, IsRangeRun}
use Rattle.ffv1_range.specs.Rows.{Rows, with_row, RowBits, IsRowsRun}
use Rattle.ffv1_range.specs.Setup.{RecordingValue, IsInVersion3}
use Rattle.ffv1_range.specs.declared.coding.RangeFault.{RangeFault}
use Rattle.ffv1_range.specs.declared.head.SliceStart.{SliceStart}
use Rattle.ffv1_range.specs.declared.head.SliceStart.TheVariants.{Codes, Samples}
use Rattle.ffv1_range.proofs.Spelling.{same_ok}
use Rattle.ffv1_plane.specs.RangeRows.{state_row}
use Rattle.ffv1_plane.specs.RangeLines.{lines_bits}
use Rattle.ffv1_plane.specs.RangeSlices.{slice_shape, slice_group, slice_plane, coded_lines, height_at, coded_depth_of, place_at, ArePlanesOfSizes, ArePlanesCoded, AreLinesStuck}
use Rattle.ffv1_plane.specs.declared.planes.PlaneSize.{PlaneSize}
use Rattle.ffv1_plane.proofs.OneRange.{one_range_reading, stuck_range_codes_nothing, stuck_range_is_one, rows_with, has_rows}
use Rattle.ffv1_plane.specs.FirstRows.{rows_to, AreFirstRows, HaveGroupStates}
use Rattle.ffv1_samples.specs.States.{GroupsOf, states_of_group, SliceStatesValue, HaveGroupContexts, HaveValues, FitSlice, FitSliceBefore, AreSameGroups, rows_before, codes_before}
use Rattle.ffv1_samples.specs.Pictures.{slice_plane_at}
use Rattle.ffv1_samples.specs.Coded.{SamplesEnd, range_end, rice_end, states_at, AreRangeCoded, AreCodesCoded, AreCoded, AreBegun, IsStuck, sample_fault_of}
use Rattle.ffv1_samples.specs.Inner.Planes.{AreOfRecording}
use Rattle.ffv1_samples.specs.Inner.Sizes.{AreSliceSizes}
use Rattle.ffv1_samples.specs.declared.faults.SampleFault.{SampleFault}
use Rattle.ffv1_samples.specs.declared.faults.SampleFault.TheVariants.{ColorTooLarge, Code}
use Rattle.ffv1_plane.specs.declared.range_rows.DifferenceFault.{DifferenceFault}
use Rattle.ffv1_plane.specs.declared.range_rows.DifferenceFault.TheVariants as difference_faults
use Rattle.ffv1_range.specs.Decoder.{Reader}
use Rattle.ffv1_range.proofs.Forms.{place_of}
use Rattle.ffv1_samples.specs.Inner.Places.{IsOneSample}
use Rattle.ffv1_bits.specs.Bits.{bits_of}
use Rattle.ffv1_rice.specs.States.{ContextState, start_state}
use Rattle.ffv1_plane.specs.RiceSlices.{values_after_planes, AreGroupsAfter, ArePlanesSpelled}
use Rattle.ffv1_plane.proofs.OneRice.{one_codes_reading, stuck_codes_spell_nothing, stuck_codes_are_one}
use Rattle.ffv1_samples.proofs.RgbRows.{stuck_in_all, stuck_in_first, row_inside, codes_in_all, codes_in_first, codes_row_inside}
use Rattle.ffv1_plane.proofs.FirstRange.{first_rows_are_coded}
use Rattle.ffv1_plane.proofs.FirstCodes.{first_rows_are_spelled}
use Rattle.ffv1_plane.proofs.RangeSlices.{group_small}
use Rattle.ffv1_samples.proofs.Codes.{values_before}
use Rattle.ffv1_samples.proofs.PlaneSizes.{equal_rows}
use Rattle.ffv1_samples.proofs.Groups.{rows_long, coded_from}

-- ---- sizes

pub coded_sizes : (r : RecordingValue) (sets : List ℕ) (sizes : List PlaneSize) (content : List ℕ) (start : SliceStart) (before : Option SliceStatesValue)
    (planes : List (List ℕ)) (end : SamplesEnd) → AreCoded r sets sizes content start before planes end → ArePlanesOfSizes (coded_depth_of r) sizes planes
coded_sizes r sets sizes content (Samples decoder) before planes (range_end last after) h = h.coded.sizes
coded_sizes r sets sizes content (Codes place) before planes (rice_end rest after) h = h.sizes_are
coded_sizes r sets sizes content (Codes place) before planes (range_end last after) h = absurd h
coded_sizes r sets sizes content (Samples decoder) before planes (rice_end rest after) h = absurd h

count_rgb : (a b c : Bool) → a ≡ true → (3 ≤ (if a || b then 3 else 1) + (if c then 1 else 0)) × ((if a || b then 3 else 1) + (if c then 1 else 0) ≤ 4)
count_rgb true b true is = (omega arith, omega arith)
count_rgb true b false is = (omega arith, omega arith)
count_rgb false b c is = absurd cc

module _ (r : RecordingValue) (sizes : List PlaneSize) (planes : List (List ℕ)) (fit : AreSliceSizes r sizes)
    (h : ArePlanesOfSizes (coded_depth_of r) sizes planes) where
  none_past : (p : ℕ) → length sizes ≤ p → slice_plane_at planes p ≡ []
  none_past p past = get_or_past planes p [] (omega (arith, past, h.count))

  small : (p s : ℕ) → slice_index (slice_plane_at planes p) s < 2 ^ coded_depth_of r
  small p s = ⊎_elim (λ less. (h.each p less).small s)
      (λ past.
      let least : 0 < 2 ^ coded_depth_of r = pow_pos (coded_depth_of r) in
      subst (λ (l : List ℕ). slice_index l s < 2 ^ coded_depth_of r) (sym (none_past p past)) least)
      (cases_lt p (length sizes))

  like_first : r.is_rgb ≡ true → (p : ℕ) → p < length sizes → length (slice_plane_at planes p) ≡ length (slice_plane_at planes 0)
  like_first is p less =
      (h.each p less).count ∙ ap (λ (size : PlaneSize). size.width * size.height) (fit.alike is p less) ∙ sym (h.each 0 (omega (arith, less))).count

  pub of_recording : AreOfRecording r planes
  of_recording = record {
    small = small;
    three = λ is.
        let count = count_rgb r.is_rgb r.setup.has_chroma r.has_alpha is in
        record {
          count = omega (arith, count.0, h.count, fit.count);
          most = omega (arith, count.1, h.count, fit.count);
          second = like_first is 1 (omega (arith, count.0, fit.count));
          third = like_first is 2 (omega (arith, count.0, fit.count));
          alpha = ⊎_elim (λ less. omega (arith, like_first is 3 less)) (λ past. omega (arith, ap length (none_past 3 past))) (cases_lt 3 (length sizes));
        };
  }

-- ---- one run

slot_is_one : (mode : Mode) (p q m : Place) (slot : ℕ) (bit : Bool) → slot_at mode p slot ≡ Ok (bit, q) → slot_at mode p slot ≡ Ok (bit, m) → q ≡ m
slot_is_one mode p q m slot bit h k = ap (λ z. z.1) (same_ok {E = RangeFault} (bit, q) (bit, m) (sym h ∙ k))

run_is_one : (mode : Mode) (p q m : Place) (bits : List (ℕ × Bool)) → IsRangeRun mode p bits q → IsRangeRun mode p bits m → q ≡ m
unfolding IsRangeRun
run_is_one mode p q m [] h k = sym h ∙ k
run_is_one mode p q m (x ∷ bits) h k =
    let same = slot_is_one mode p h.0 k.0 x.0 x.1 h.1 k.1 in
    run_is_one mode h.0 q m bits h.2 (subst (λ (z : Place). IsRangeRun mode z bits m) (sym same) k.2)

rows_run_is_one : (mode : Mode) (p q m : PlaceOf Rows) (bits : List RowBits) → IsRowsRun mode p bits q → IsRowsRun mode p bits m → q ≡ m
unfolding IsRowsRun
rows_run_is_one mode p q m [] h k = sym h ∙ k
rows_run_is_one mode p q m (row ∷ bits) h k =
    let same = run_is_one mode (place_of p.coder (p.states row.0)) h.0 k.0 row.1 h.1 k.1 in
    rows_run_is_one mode (place_of h.0.coder (with_row p.states row.0 h.0.states)) q m bits h.2
    (subst (λ (z : Place). IsRowsRun mode (place_of z.coder (with_row p.states row.0 z.states)) bits m) (sym same) k.2)

-- ---- one list of planes

one_start : (at : Result Coder RangeFault) (a b : Coder) → at ≡ Ok a → at ≡ Ok b → a ≡ b
one_start at a b h k = same_ok a b (sym h ∙ k)

-- two ends are one, but for states of groups that no plane is of
abbrev pub AreSameEnds : RecordingValue → SamplesEnd → SamplesEnd → Type 0
AreSameEnds r (range_end last after) (range_end end later) = (last ≡ end) × AreSameGroups r after later
AreSameEnds r (rice_end rest after) (rice_end tail later) = (rest ≡ tail) × AreSameGroups r after later
AreSameEnds r end last = ⊥

module _ (r : RecordingValue) (sets : List ℕ) (sizes : List PlaneSize) (version : IsInVersion3 r) (fit : AreSliceSizes r sizes) (decoder : Reader)
    (before : ℕ → List (List ℕ)) (planes others : List (List ℕ)) (last end : Coder) (after later : GroupsOf (List ℕ))
    (h : AreRangeCoded r sets sizes decoder before planes last after) (k : AreRangeCoded r sets sizes decoder before others end later) where
  starts : k.start ≡ h.start
  starts = one_start decoder.at k.start h.start k.from h.from

  second : ArePlanesCoded decoder.mode (slice_shape r sets sizes) h.start before others end (states_of_group later)
  second = subst (λ c. ArePlanesCoded decoder.mode (slice_shape r sets sizes) c before others end (states_of_group later)) starts k.coded

  pub one_range : (planes ≡ others) × (last ≡ end)
  one_range =
      one_range_reading r sets sizes decoder.mode h.start last end before (states_of_group after) (states_of_group later) planes others version fit.fit
      (equal_rows r sizes fit) h.coded second

  -- the states that both leave
  pub one_after : HaveGroupContexts r sets after → HaveGroupContexts r sets later → AreSameGroups r after later
  one_after long many p less =
      let g = slice_group r.setup.has_chroma p in
      let small = group_small r.setup.has_chroma p in
      let rows = rows_with before in
      let a = h.coded.run (rows_with before) (has_rows before) in
      let b = second.run (rows_with before) (has_rows before) in
      let run : IsRowsRun decoder.mode (place_at h.start (rows_with before)) (lines_bits (slice_plane (slice_shape r sets sizes) planes) (coded_lines (slice_shape r sets sizes)))
      (place_at end b.next) =
      subst (λ l. IsRowsRun decoder.mode (place_at h.start (rows_with before)) (lines_bits (slice_plane (slice_shape r sets sizes) l) (coded_lines (slice_shape r sets sizes)))
      (place_at end b.next)) (sym one_range.0) b.run in
      let same : place_at last a.next ≡ place_at end b.next =
      rows_run_is_one decoder.mode (place_at h.start (rows_with before)) (place_at last a.next) (place_at end b.next)
      (lines_bits (slice_plane (slice_shape r sets sizes) planes) (coded_lines (slice_shape r sets sizes))) a.run run in
      let equal : length (states_of_group after g) ≡ length (states_of_group later g) = long p less ∙ sym (many p less) in
      ext_get_or [] (states_of_group after g) (states_of_group later g) equal (λ i inside.
      sym (a.states g small i inside) ∙ ap (λ (z : PlaceOf Rows). z.states (state_row g i)) same ∙ b.states g small i (omega (arith, inside, equal)))

module _ (r : RecordingValue) (sets : List ℕ) (sizes : List PlaneSize) (version : IsInVersion3 r) (fit : AreSliceSizes r sizes) (bits : List Bool)
    (before : ℕ → List ContextState) (left : HaveValues r before) (planes others : List (List ℕ)) (rest tail : List Bool) (after later : GroupsOf ContextState)
    (h : AreCodesCoded r sets sizes bits before planes rest after) (k : AreCodesCoded r sets sizes bits before others tail later) where
  pub one_codes : (planes ≡ others) × (rest ≡ tail)
  one_codes =
      one_codes_reading r sets sizes left.0 bits rest tail planes others version fit.fit (equal_rows r sizes fit) (h.spelled left.0 left.1) (k.spelled left.0 left.1)

  -- the states that both leave
  pub one_codes_after : HaveGroupContexts r sets after → HaveGroupContexts r sets later → AreSameGroups r after later
  one_codes_after long many p less =
      let g = slice_group r.setup.has_chroma p in
      let small = group_small r.setup.has_chroma p in
      let equal : length (states_of_group after g) ≡ length (states_of_group later g) = long p less ∙ sym (many p less) in
      let a = h.left left.0 left.1 in
      let b = subst (λ l. AreGroupsAfter (coded_depth_of r) (values_after_planes (slice_shape r sets sizes) l left.0) (states_of_group later)) (sym one_codes.0)
      (k.left left.0 left.1) in
      ext_get_or start_state (states_of_group after g) (states_of_group later g) equal (λ i inside. a g small i inside ∙ sym (b g small i (omega (arith, inside, equal))))

-- A content codes one list of planes up to one end.
pub one_coded : (r : RecordingValue) (sets : List ℕ) (sizes : List PlaneSize) (content : List ℕ) (start : SliceStart) (before : Option SliceStatesValue)
    (planes others : List (List ℕ)) (end last : SamplesEnd) → IsInVersion3 r → AreSliceSizes r sizes → FitSliceBefore r sets before
    → AreCoded r sets sizes content start before planes end → AreCoded r sets sizes content start before others last → planes ≡ others
one_coded r sets sizes content (Samples decoder) before planes others (range_end last after) (range_end end later) version fit given h k =
    (one_range r sets sizes version fit decoder (rows_before r sets before) planes others last end after later h k).0
one_coded r sets sizes content (Codes place) before planes others (rice_end rest after) (rice_end tail later) version fit given h k =
    (one_codes r sets sizes version fit (bits_of (drop place content)) (codes_before r sets before) (values_before r sets before given) planes others rest tail after
    later h k).0
one_coded r sets sizes content (Codes place) before planes others (range_end last after) end version fit given h k = absurd h
one_coded r sets sizes content (Codes place) before planes others (rice_end rest after) (range_end end later) version fit given h k = absurd k
one_coded r sets sizes content (Samples decoder) before planes others (rice_end rest after) end version fit given h k = absurd h
one_coded r sets sizes content (Samples decoder) before planes others (range_end last after) (rice_end tail later) version fit given h k = absurd k

pub one_end : (r : RecordingValue) (sets : List ℕ) (sizes : List PlaneSize) (content : List ℕ) (start : SliceStart) (before : Option SliceStatesValue)
    (planes others : List (List ℕ)) (end last : SamplesEnd) → IsInVersion3 r → AreSliceSizes r sizes → FitSliceBefore r sets before
    → AreCoded r sets sizes content start before planes end → AreCoded r sets sizes content start before others last
    → FitSlice r sets (states_at end) → FitSlice r sets (states_at last) → AreSameEnds r end last
one_end r sets sizes content (Samples decoder) before planes others (range_end last after) (range_end end later) version fit given h k long many = (
  (one_range r sets sizes version fit decoder (rows_before r sets before) planes others last end after later h k).1,
  one_after r sets sizes version fit decoder (rows_before r sets before) planes others last end after later h k long.1 many.1,
)
one_end r sets sizes content (Codes place) before planes others (rice_end rest after) (rice_end tail later) version fit given h k long many =
    let bits = bits_of (drop place content) in
    let left = values_before r sets before given in (
      (one_codes r sets sizes version fit (bits_of (drop place content)) (codes_before r sets before) left planes others rest tail after later h k).1,
      one_codes_after r sets sizes version fit (bits_of (drop place content)) (codes_before r sets before) left planes others rest tail after later h k long.1 many.1,
    )
one_end r sets sizes content (Codes place) before planes others (range_end last after) end version fit given h k long many = absurd h
one_end r sets sizes content (Codes place) before planes others (rice_end rest after) (range_end end later) version fit given h k long many = absurd k
one_end r sets sizes content (Samples decoder) before planes others (rice_end rest after) end version fit given h k long many = absurd h
one_end r sets sizes content (Samples decoder) before planes others (range_end last after) (rice_end tail later) version fit given h k long many = absurd k

-- a content that is stuck codes no planes
pub stuck_codes_nothing : (r : RecordingValue) (sets : List ℕ) (sizes : List PlaneSize) (content : List ℕ) (start : SliceStart) (before : Option SliceStatesValue)
    (fault : SampleFault) (plane y x : ℕ) (planes : List (List ℕ)) (end : SamplesEnd) → IsInVersion3 r → AreSliceSizes r sizes → FitSliceBefore r sets before
    → IsStuck r sets sizes content start before fault plane y x → AreCoded r sets sizes content start before planes end → ⊥
stuck_codes_nothing r sets sizes content (Samples decoder) before fault plane y x planes (range_end last after) version fit given s h =
    stuck_range_codes_nothing r sets sizes decoder.mode s.start last (rows_before r sets before) (states_of_group after) s.difference plane y x planes version fit.fit s.stuck
    (subst (λ c. ArePlanesCoded decoder.mode (slice_shape r sets sizes) c (rows_before r sets before) planes last (states_of_group after))
    (one_start decoder.at h.start s.start h.from s.from) h.coded)
stuck_codes_nothing r sets sizes content (Codes place) before fault plane y x planes (rice_end rest after) version fit given s h =
    let left = values_before r sets before given in
    stuck_codes_spell_nothing r sets sizes left.0 (bits_of (drop place content)) rest s.code plane y x planes version fit.fit (s.stuck left.0 left.1)
    (h.spelled left.0 left.1)
stuck_codes_nothing r sets sizes content (Codes place) before fault plane y x planes (range_end last after) version fit given s h = h
stuck_codes_nothing r sets sizes content (Samples decoder) before fault plane y x planes (rice_end rest after) version fit given s h = h

-- and is stuck at one sample
pub stuck_is_one : (r : RecordingValue) (sets : List ℕ) (sizes : List PlaneSize) (content : List ℕ) (start : SliceStart) (before : Option SliceStatesValue)
    (fault other : SampleFault) (plane level y v x u : ℕ) → IsInVersion3 r → AreSliceSizes r sizes → FitSliceBefore r sets before
    → IsStuck r sets sizes content start before fault plane y x → IsStuck r sets sizes content start before other level v u
    → IsOneSample fault other plane level y v x u
stuck_is_one r sets sizes content (Samples decoder) before fault other plane level y v x u version fit given s t =
    let one = stuck_range_is_one r sets sizes decoder.mode s.start (rows_before r sets before) s.difference t.difference plane level y v x u version fit.fit s.stuck
    (subst (λ c. AreLinesStuck decoder.mode (slice_shape r sets sizes) c (rows_before r sets before) t.difference level v u)
    (one_start decoder.at t.start s.start t.from s.from) t.stuck) in
    record {
      fault_same = s.is ∙ ap sample_fault_of one.fault_same ∙ sym t.is;
      plane_same = one.plane_same;
      row_same = one.row_same;
      column_same = one.column_same;
    }
stuck_is_one r sets sizes content (Codes place) before fault other plane level y v x u version fit given s t =
    let left = values_before r sets before given in
    let one = stuck_codes_are_one r sets sizes left.0 (bits_of (drop place content)) s.code t.code plane level y v x u version fit.fit (s.stuck left.0 left.1)
    (t.stuck left.0 left.1) in
    record {
      fault_same = s.is ∙ ap Code one.fault_same ∙ sym t.is;
      plane_same = one.plane_same;
      row_same = one.row_same;
      column_same = one.column_same;
    }

-- a sample that is stuck in the first rows of RGB is so in all, and stands in them
pub stuck_in_rows : (r : RecordingValue) (sets : List ℕ) (sizes : List PlaneSize) (rows : ℕ) (content : List ℕ) (start : SliceStart) (before : Option SliceStatesValue)
    (fault : SampleFault) (plane y x : ℕ) → FitSliceBefore r sets before → r.is_rgb ≡ true → 1 ≤ length sizes → rows ≤ height_at sizes 0
    → IsStuck r sets (rows_to rows sizes) content start before fault plane y x → IsStuck r sets sizes content start before fault plane y x × (y < rows)
stuck_in_rows r sets sizes rows content (Samples decoder) before fault plane y x given is some few s =
    let all = stuck_in_all r sets sizes rows is some few decoder.mode s.start (rows_before r sets before) s.difference plane y x s.stuck in
    (record { start = s.start; from = s.from; difference = s.difference; is = s.is; stuck = all.0 }, all.1)
stuck_in_rows r sets sizes rows content (Codes place) before fault plane y x given is some few s =
    let left = values_before r sets before given in
    let bits = bits_of (drop place content) in (
      record {
        code = s.code;
        is = s.is;
        stuck = λ values have.
            (codes_in_all r sets sizes rows is some few values (bits_of (drop place content)) s.code plane y x (s.stuck values have)).0;
      },
      (codes_in_all r sets sizes rows is some few left.0 (bits_of (drop place content)) s.code plane y x (s.stuck left.0 left.1)).1,
    )

-- the row at which RGB is stuck is one of the slice's
pub stuck_row_inside : (r : RecordingValue) (sets : List ℕ) (sizes : List PlaneSize) (content : List ℕ) (start : SliceStart) (before : Option SliceStatesValue)
    (fault : SampleFault) (plane y x : ℕ) → FitSliceBefore r sets before → r.is_rgb ≡ true → IsStuck r sets sizes content start before fault plane y x
    → y < height_at sizes 0
stuck_row_inside r sets sizes content (Samples decoder) before fault plane y x given is s =
    row_inside r sets sizes decoder.mode s.start (rows_before r sets before) s.difference plane y x is s.stuck
stuck_row_inside r sets sizes content (Codes place) before fault plane y x given is s =
    let left = values_before r sets before given in
    codes_row_inside r sets sizes left.0 (bits_of (drop place content)) s.code plane y x is (s.stuck left.0 left.1)

-- what is stuck is no colour
pub stuck_no_color : (r : RecordingValue) (sets : List ℕ) (sizes : List PlaneSize) (content : List ℕ) (start : SliceStart) (before : Option SliceStatesValue)
    (plane y x : ℕ) → IsStuck r sets sizes content start before ColorTooLarge plane y x → ⊥
stuck_no_color r sets sizes content (Samples decoder) before plane y x s = no_color s.difference s.is
  where
    no_color : (d : DifferenceFault) → ColorTooLarge ≡ sample_fault_of d → ⊥
    no_color difference_faults.Short e = cc
    no_color difference_faults.TooLarge e = cc
stuck_no_color r sets sizes content (Codes place) before plane y x s = let e : ColorTooLarge ≡ Code s.code = s.is in cc

-- ---- planes that are coded up to some place

pub coded_begun : (r : RecordingValue) (sets : List ℕ) (sizes : List PlaneSize) (content : List ℕ) (start : SliceStart) (before : Option SliceStatesValue)
    (planes : List (List ℕ)) (end : SamplesEnd) → AreCoded r sets sizes content start before planes end → AreBegun r sets sizes content start before planes
coded_begun r sets sizes content (Samples decoder) before planes (range_end last after) h = (last, after, h)
coded_begun r sets sizes content (Codes place) before planes (rice_end rest after) h =
    record { sizes_are = h.sizes_are; spelled = λ values left. (rest, h.spelled values left) }
coded_begun r sets sizes content (Samples decoder) before planes (rice_end rest after) h = absurd h
coded_begun r sets sizes content (Codes place) before planes (range_end last after) h = absurd h

pub begun_sizes : (r : RecordingValue) (sets : List ℕ) (sizes : List PlaneSize) (content : List ℕ) (start : SliceStart) (before : Option SliceStatesValue)
    (planes : List (List ℕ)) → AreBegun r sets sizes content start before planes → ArePlanesOfSizes (coded_depth_of r) sizes planes
begun_sizes r sets sizes content (Samples decoder) before planes h = h.2.coded.sizes
begun_sizes r sets sizes content (Codes place) before planes h = h.sizes_are

pub one_begun : (r : RecordingValue) (sets : List ℕ) (sizes : List PlaneSize) (content : List ℕ) (start : SliceStart) (before : Option SliceStatesValue)
    (planes others : List (List ℕ)) → IsInVersion3 r → AreSliceSizes r sizes → FitSliceBefore r sets before
    → AreBegun r sets sizes content start before planes → AreBegun r sets sizes content start before others → planes ≡ others
one_begun r sets sizes content (Samples decoder) before planes others version fit given h k =
    (one_range r sets sizes version fit decoder (rows_before r sets before) planes others h.0 k.0 h.1 k.1 h.2 k.2).0
one_begun r sets sizes content (Codes place) before planes others version fit given h k =
    let left = values_before r sets before given in
    let a = h.spelled left.0 left.1 in
    let b = k.spelled left.0 left.1 in
    (one_codes_reading r sets sizes left.0 (bits_of (drop place content)) a.0 b.0 planes others version fit.fit (equal_rows r sizes fit) a.1 b.1).0

-- what is stuck in one of these rows does not go on to their end
pub stuck_not_begun : (r : RecordingValue) (sets : List ℕ) (sizes : List PlaneSize) (rows : ℕ) (content : List ℕ) (start : SliceStart) (before : Option SliceStatesValue)
    (fault : SampleFault) (plane y x : ℕ) (planes : List (List ℕ)) → IsInVersion3 r → AreSliceSizes r (rows_to rows sizes) → FitSliceBefore r sets before
    → r.is_rgb ≡ true → 1 ≤ length sizes → rows ≤ height_at sizes 0 → y < rows → IsStuck r sets sizes content start before fault plane y x
    → AreBegun r sets (rows_to rows sizes) content start before planes → ⊥
stuck_not_begun r sets sizes rows content (Samples decoder) before fault plane y x planes version fit given is some few less s h =
    let there = stuck_in_first r sets sizes rows is some few decoder.mode s.start (rows_before r sets before) s.difference plane y x less s.stuck in
    stuck_range_codes_nothing r sets (rows_to rows sizes) decoder.mode s.start h.0 (rows_before r sets before) (states_of_group h.1) s.difference plane y x planes version
    fit.fit there
    (subst (λ c. ArePlanesCoded decoder.mode (slice_shape r sets (rows_to rows sizes)) c (rows_before r sets before) planes h.0 (states_of_group h.1))
    (one_start decoder.at h.2.start s.start h.2.from s.from) h.2.coded)
stuck_not_begun r sets sizes rows content (Codes place) before fault plane y x planes version fit given is some few less s h =
    let left = values_before r sets before given in
    let a = h.spelled left.0 left.1 in
    let there = codes_in_first r sets sizes rows is some few left.0 (bits_of (drop place content)) s.code plane y x less (s.stuck left.0 left.1) in
    stuck_codes_spell_nothing r sets (rows_to rows sizes) left.0 (bits_of (drop place content)) a.0 s.code plane y x planes version fit.fit there a.1

-- ---- the first rows

-- planes with these first rows
pub record HaveFirstRows (r : RecordingValue) (sets : List ℕ) (sizes : List PlaneSize) (rows : ℕ) (content : List ℕ) (start : SliceStart)
    (before : Option SliceStatesValue) (planes : List (List ℕ)) : Type 0 where
  pub firsts : List (List ℕ)
  pub are : AreFirstRows sizes rows planes firsts
  pub begun : AreBegun r sets (rows_to rows sizes) content start before firsts

one_first : (sizes : List PlaneSize) (rows : ℕ) (planes firsts others : List (List ℕ)) → AreFirstRows sizes rows planes firsts → AreFirstRows sizes rows planes others
    → firsts ≡ others
one_first sizes rows planes firsts others h k =
    ext_get_or [] firsts others (h.count ∙ sym k.count)
    (λ p less. h.each p (omega (arith, less, h.count)) ∙ sym (k.each p (omega (arith, less, h.count))))

groups_of : (ℕ → List (List ℕ)) → GroupsOf (List ℕ)
groups_of states = record { luma = states 0; chroma = states 1; alpha = states 2 }

groups_same : (states : ℕ → List (List ℕ)) (g : ℕ) → g < 3 → states g ≡ states_of_group (groups_of states) g
unfolding groups_of
groups_same states zero less = refl
groups_same states (suc zero) less = refl
groups_same states (suc (suc zero)) less = refl
groups_same states (suc (suc (suc g))) less = absurd (omega (arith, less))

module _ (r : RecordingValue) (sets : List ℕ) (sizes : List PlaneSize) (rows : ℕ) (content : List ℕ) (before : Option SliceStatesValue) (planes : List (List ℕ))
    (version : IsInVersion3 r) (there : (group : ℕ) → group < 3 → slice_index sets group < length r.setup.sets) (fit : AreSliceSizes r sizes)
    (given : FitSliceBefore r sets before) (rgb : r.is_rgb ≡ true) (some : 1 ≤ length sizes) (few : rows ≤ height_at sizes 0) where
  range_first : (decoder : Reader) → AreBegun r sets sizes content (Samples decoder) before planes
      → HaveFirstRows r sets sizes rows content (Samples decoder) before planes
  range_first decoder h =
      let states : HaveGroupStates (slice_shape r sets sizes) (rows_before r sets before) =
      record { there = there; count = λ p less. rows_long r sets before version given p (omega (arith, less, fit.count)) } in
      let first =
      first_rows_are_coded r sets sizes decoder.mode h.2.start h.0 (rows_before r sets before) (states_of_group h.1) planes rows version fit.fit some (equal_rows r sizes fit)
      states rgb few h.2.coded in
      record {
        firsts = first.0;
        are = first.3;
        begun = (
          first.1,
          groups_of first.2,
          record {
            start = h.2.start;
            from = h.2.from;
            coded =
                coded_from decoder.mode (slice_shape r sets (rows_to rows sizes)) h.2.start first.1 first.0 (rows_before r sets before) (rows_before r sets before)
                first.2 (states_of_group (groups_of first.2)) (λ g less. refl) (groups_same first.2) first.4;
          },
        );
      }

  codes_first : (place : ℕ) → AreBegun r sets sizes content (Codes place) before planes → HaveFirstRows r sets sizes rows content (Codes place) before planes
  codes_first place h =
      let bits = bits_of (drop place content) in
      let left = values_before r sets before given in
      let front = λ (values : ℕ → ℕ → List ℤ) (have : AreGroupsAfter (coded_depth_of r) values (codes_before r sets before)).
      first_rows_are_spelled r sets sizes values (bits_of (drop place content)) (h.spelled values have).0 planes rows fit.fit some (equal_rows r sizes fit) rgb few
      (h.spelled values have).1 in
      let first = front left.0 left.1 in
      record {
        firsts = first.0;
        are = first.2;
        begun = record {
          sizes_are = first.3.sizes;
          spelled = λ values have.
              let other = front values have in (
                other.1,
                subst (λ l. ArePlanesSpelled (slice_shape r sets (rows_to rows sizes)) values (bits_of (drop place content)) l other.1)
                    (one_first sizes rows planes other.0 first.0 other.2 first.2) other.3,
              );
        };
      }

  pub first_begun : (start : SliceStart) → AreBegun r sets sizes content start before planes → HaveFirstRows r sets sizes rows content start before planes
  first_begun (Samples decoder) h = range_first decoder h
  first_begun (Codes place) h = codes_first place h
