-- A slice of the small definitions is one that has a picture, and leaves the same.
use Rattle.std.proofs.Common.{◌≡◌, ◌≢◌, ℕ, zero, suc, ◌*◌, ◌<◌, ◌≤◌, Bool, List, length, take, drop, get_or, refl, sym, ap, ◌∙◌, subst, ℤ, arith}
use Rattle.std.specs.Prelude.{Option, Some, None, Ok, slice_index}
use Rattle.std.proofs.lemmas.List.{length-replicate, length-take, length-take-le, get_or-take}
use Rattle.std.proofs.lemmas.List.FromFn.{length-map-range_with_len}
use Rattle.ffv1_bits.specs.Bits.{bits_of}
use Rattle.ffv1_range.specs.Coding.{Coder}
use Rattle.ffv1_range.specs.Decoder.{Reader, is_clean}
use Rattle.ffv1_range.specs.Rows.{IsRowsRun}
use Rattle.ffv1_range.specs.Setup.{RecordingValue, IsInVersion3, set_contexts}
use Rattle.ffv1_range.specs.Header.{BeginAt}
use Rattle.ffv1_range.specs.SliceHeader.{slice_mode, slice_bytes, FollowsHeader, IsSliceHeaderOf}
use Rattle.ffv1_range.specs.declared.coding.RangeEnd.{RangeEnd}
use Rattle.ffv1_range.specs.declared.coding.RangeFault.{RangeFault}
use Rattle.ffv1_range.specs.declared.head.SliceHeader.{SliceHeader}
use Rattle.ffv1_range.specs.declared.head.SliceStart.{SliceStart}
use Rattle.ffv1_range.specs.declared.head.SliceStart.TheVariants.{Codes, Samples}
use Rattle.ffv1_range.proofs.Spelling.{same_ok}
use Rattle.ffv1_rice.specs.States.{ContextState, start_state}
use Rattle.ffv1_plane.specs.Spelling.{context_number}
use Rattle.ffv1_plane.specs.Lines.{Line, LinesSpell}
use Rattle.ffv1_plane.proofs.Contexts.{context_fits}
use Rattle.ffv1_plane.proofs.RangeSlices.{group_small}
use Rattle.ffv1_plane.specs.RangeSlices.{slice_group, coded_lines, coded_depth_of, place_at, ArePlanesOfSizes, ArePlanesCoded}
use Rattle.ffv1_plane.specs.RiceSlices.{slice_planes, values_after_planes, AreGroupsAfter}
use Rattle.ffv1_plane.specs.declared.planes.PlaneSize.{PlaneSize}
use Rattle.ffv1_samples.specs.States.{GroupsOf, states_of_group, SliceStatesValue, range_states, rice_states, count_of_planes, HaveGroupContexts, FitSlice, FitSliceBefore, rows_before, codes_before}
use Rattle.ffv1_samples.specs.Inner.Headers.{IsHeaderWithin}
use Rattle.ffv1_samples.proofs.Headers.{header_within}
use Rattle.ffv1_samples.specs.Sizes.{slice_sizes}
use Rattle.ffv1_samples.specs.Coded.{SamplesEnd, range_end, rice_end, states_at, is_clean_rest, AreRangeCoded, AreCodesCoded, AreCoded, EndsWith}
use Rattle.ffv1_samples.specs.Slices.{SlicePictureValue, IsSlicePicture}
use Rattle.ffv1_samples.proofs.CodedPlanes.{coded_sizes}
use Rattle.ffv1_samples.proofs.Codes.{values_before}
use Rattle.ffv1_player.specs.Frames.{left_by}
use Rattle.ffv1_player.specs.SmallSlices.{slice_area, area_in, area_size, plane_sizes, group_of, coded_line, state_in, LinesAreSpelled, StartsWithHeader, AreRangeCodedPlanes, AreSpelledPlanes, AreCodedPlanes, SliceValue, IsSlice}
use Rattle.ffv1_player.proofs.SmallStates.{AreOfPlanes}
use Rattle.ffv1_player.proofs.SmallLines.{sizes_same, lines_same, symbols_are, spelled_to, spelled_from, shape, Agree, of_slice}
use Rattle.ffv1_player.proofs.SmallColors.{planes_to, planes_from}

-- what of a picture is said of a slice
abbrev pub value_of : SlicePictureValue → SliceValue
value_of picture = record { planes = picture.planes; left = left_by picture }

codes_long : (r : RecordingValue) (sets : List ℕ) (before : Option SliceStatesValue) → FitSliceBefore r sets before → (p : ℕ) → p < count_of_planes r
    → length (codes_before r sets before (slice_group r.setup.has_chroma p)) ≡ set_contexts r.setup (slice_index sets (slice_group r.setup.has_chroma p))
codes_long r sets (Some (rice_states groups)) fit p less = fit.1 p less
codes_long r sets (Some (range_states groups)) fit p less = length-replicate _ _
codes_long r sets None fit p less = length-replicate _ _

module _ (r : RecordingValue) (content : List ℕ) (header : SliceHeader) (start : Coder) (before : Option SliceStatesValue) (coded : List (List ℕ)) where
  abbrev sizes : List PlaneSize
  sizes = plane_sizes r header

  -- ---- range coding

  -- the decoder that read the header
  abbrev decoder : Reader
  decoder = record { mode = slice_mode r; total = length (slice_bytes r content); at = Ok start }

  range_to : (end : Coder) (after : GroupsOf (List ℕ)) (spare_bits : ℕ) (clean : Bool) → r.coder ≢ 0
      → AreRangeCoded r header.tables sizes decoder (rows_before r header.tables before) coded end after
      → EndsWith (Samples decoder) (range_end end after) spare_bits clean → AreRangeCodedPlanes r header start before coded after
  range_to end after spare_bits clean coder h ends =
      let there : ArePlanesCoded (slice_mode r) (shape r header coded) start (rows_before r header.tables before) coded end (states_of_group after) =
      subst (λ c. ArePlanesCoded (slice_mode r) (shape r header coded) c (rows_before r header.tables before) coded end (states_of_group after))
      (sym (same_ok {E = RangeFault} start h.start h.from)) h.coded in
      record {
        coder = coder;
        end = end;
        run = λ rows has.
            let run = there.run rows has in (
              run.next,
              run.states,
              subst (λ bits. IsRowsRun (slice_mode r) (place_at start rows) bits (place_at end run.next)) (symbols_are r header coded coder) run.run,
            );
        last = (ends.0.bit, ends.1.0);
        ends = ends.1.1;
      }

  module _ (after : GroupsOf (List ℕ)) (h : AreRangeCodedPlanes r header start before coded after) where
    range_from : ArePlanesOfSizes (coded_depth_of r) sizes coded
        → AreRangeCoded r header.tables sizes decoder (rows_before r header.tables before) coded h.end after
    range_from fit = record {
      start = start;
      from = refl;
      coded = record {
        sizes = fit;
        run = λ rows has.
            let run = h.run rows has in
            record {
              next = run.0;
              run =
                  subst (λ bits. IsRowsRun (slice_mode r) (place_at start rows) bits (place_at h.end run.0)) (sym (symbols_are r header coded h.coder))
                  run.2;
              states = run.1;
            };
      };
    }

    the_end : RangeEnd
    the_end = record { bit = h.last.0; low = h.last.1.low; spare = length h.last.1.rest }

    ends_from : EndsWith (Samples decoder) (range_end h.end after) (8 * the_end.spare) (is_clean the_end)
    unfolding the_end
    ends_from = (the_end, (h.last.1, h.ends, refl, refl), refl, refl)

  -- ---- Golomb-Rice codes

  module _ (version : IsInVersion3 r) (within : IsHeaderWithin r header) (given : FitSliceBefore r header.tables before) where
    abbrev states : ℕ → List ContextState
    states = codes_before r header.tables before

    abbrev many : ℕ → ℕ
    many group = length (states group)

    set_there : (group : ℕ) → group < 3 → slice_index header.tables group < length r.setup.sets
    set_there zero less = within.luma
    set_there (suc zero) less = within.chroma
    set_there (suc (suc zero)) less = within.alpha
    set_there (suc (suc (suc group))) less = absurd (omega (arith, less))

    inside : (line : Line) → line.plane < count_of_planes r → (x : ℕ) → context_number (coded_line r header coded line) x < many (group_of r line)
    inside line less x =
        let fits : context_number (coded_line r header coded line) x < set_contexts r.setup (slice_index header.tables (group_of r line)) =
        context_fits r.setup (slice_index header.tables (group_of r line)) _ version.contexts
        (set_there (group_of r line) (group_small r.setup.has_chroma line.plane)) in
        omega (arith, fits, codes_long r header.tables before given line.plane less)

    lines_there : AreOfPlanes (count_of_planes r) (coded_lines (shape r header coded))
    lines_there =
        subst (λ n. AreOfPlanes n (coded_lines (shape r header coded)))
        (length-map-range_with_len (λ p. area_size (area_in r p (slice_area r.setup header))) 0 (count_of_planes r)) (of_slice r.is_rgb sizes)

    codes_to : (place : ℕ) (rest : List Bool) (after : GroupsOf ContextState) → r.coder ≡ 0 → BeginAt content start place
        → AreCodesCoded r header.tables sizes (bits_of (drop place content)) states coded rest after
        → AreSpelledPlanes r content header start before coded after
    codes_to place rest after coder begin h =
        let values = values_before r header.tables before given in
        let s = h.spelled values.0 values.1 in
        let there = spelled_to r header coded coder many (count_of_planes r) inside (coded_lines (shape r header coded)) lines_there (state_in states)
        values.0 (λ group k small less. values.1 group small k less) 0 s.words s.last s.spells in
        record {
          coder = coder;
          place = place;
          begin = begin;
          words = s.words;
          rest = rest;
          bits = s.begins;
          last = there.0;
          spelled = subst (λ lines. LinesAreSpelled r header coded (state_in states) 0 lines s.words there.0) (lines_same r sizes) there.1;
          left = λ group k small old new. h.left values.0 values.1 group small k new ∙ sym (there.2 group k small old);
        }

    module _ (after : GroupsOf ContextState) (h : AreSpelledPlanes r content header start before coded after) where
      -- the states after, of the contexts that there were before
      abbrev kept : GroupsOf ContextState
      kept = record { luma = take (many 0) after.luma; chroma = take (many 1) after.chroma; alpha = take (many 2) after.alpha }

      kept_is : (group : ℕ) → group < 3 → states_of_group kept group ≡ take (many group) (states_of_group after group)
      kept_is zero less = refl
      kept_is (suc zero) less = refl
      kept_is (suc (suc zero)) less = refl
      kept_is (suc (suc (suc group))) less = absurd (omega (arith, less))

      there : (values : ℕ → ℕ → List ℤ) → AreGroupsAfter (coded_depth_of r) values states
          → (last : ℕ) × LinesSpell (slice_planes (shape r header coded) coded) values 0 (coded_lines (shape r header coded)) h.words last
          × Agree r header coded many h.last (values_after_planes (shape r header coded) coded values)
      there values have =
          spelled_from r header coded h.coder many (count_of_planes r) inside (coded_lines (shape r header coded)) lines_there (state_in states) values
          (λ group k small less. have group small k less) 0 h.words h.last
          (subst (λ lines. LinesAreSpelled r header coded (state_in states) 0 lines h.words h.last) (sym (lines_same r sizes)) h.spelled)

      left_from : (values : ℕ → ℕ → List ℤ) → AreGroupsAfter (coded_depth_of r) values states
          → AreGroupsAfter (coded_depth_of r) (values_after_planes (shape r header coded) coded values) (states_of_group kept)
      left_from values have group small k less =
          let is = kept_is group small in
          let short : k < length (take (many group) (states_of_group after group)) = subst (λ (l : List ContextState). k < length l) is less in
          let long = length-take (many group) (states_of_group after group) in
          let old : k < many group = omega (arith, short, long) in
          let new : k < length (states_of_group after group) = omega (arith, short, long) in
          ap (λ l. get_or l k start_state) is ∙ get_or-take (many group) (states_of_group after group) k start_state old
          ∙ h.left group k small old new ∙ (there values have).2 group k small old

      codes_from : ArePlanesOfSizes (coded_depth_of r) sizes coded
          → AreCodesCoded r header.tables sizes (bits_of (drop h.place content)) states coded h.rest kept
      codes_from fit = record {
        sizes_are = fit;
        spelled = λ values have.
            let found = there values have in record { sizes = fit; words = h.words; begins = h.bits; last = found.0; spells = found.1 };
        left = left_from;
      }

      kept_contexts : HaveGroupContexts r header.tables after → HaveGroupContexts r header.tables kept
      kept_contexts contexts p less =
          let group = slice_group r.setup.has_chroma p in
          let old = codes_long r header.tables before given p less in
          let enough : many group ≤ length (states_of_group after group) = omega (arith, old, contexts p less) in
          ap length (kept_is group (group_small r.setup.has_chroma p)) ∙ length-take-le (many group) (states_of_group after group) enough ∙ old

-- ---- from pictures

module _ (r : RecordingValue) (version : IsInVersion3 r) (content : List ℕ) (first : Bool) (before : Option SliceStatesValue) where
  header_to : (header : SliceHeader) (start : SliceStart) (h : IsSliceHeaderOf r content first header start) → StartsWithHeader r content first header h.end
  header_to header start h = record { fields = h.fields; coded = h.coded; has_key = h.has_key; fits = h.fits; values = h.values }

  coded_to : (header : SliceHeader) (start : SliceStart) (end : SamplesEnd) (coded : List (List ℕ)) (spare_bits : ℕ) (clean : Bool)
      → FitSliceBefore r header.tables before → (h : IsSliceHeaderOf r content first header start)
      → AreCoded r header.tables (plane_sizes r header) content start before coded end
      → EndsWith start end spare_bits clean → FitSlice r header.tables (states_at end) → AreCodedPlanes r content header h.end before coded (states_at end)
  coded_to header (Samples reader) (range_end last after) coded spare_bits clean given h are ends fit =
      let follows = h.follows in (
        range_to r content header h.end before coded last after spare_bits clean follows.0
            (subst (λ (d : Reader). AreRangeCoded r header.tables (plane_sizes r header) d (rows_before r header.tables before) coded last after) follows.1
            are)
            (subst (λ (d : Reader). EndsWith (Samples d) (range_end last after) spare_bits clean) follows.1 ends),
        fit.1,
      )
  coded_to header (Codes place) (rice_end rest after) coded spare_bits clean given h are ends fit =
      let follows = h.follows in
      let within = header_within r content first header (Codes place) version h in
      (codes_to r content header h.end before coded version within given place rest after follows.0 follows.1 are, fit.1)
  coded_to header (Samples reader) (rice_end rest after) coded spare_bits clean given h are ends fit = absurd are
  coded_to header (Codes place) (range_end last after) coded spare_bits clean given h are ends fit = absurd are

  pub slice_to : (d : SlicePictureValue) → FitSliceBefore r d.header.tables before → IsSlicePicture r content first before d
      → IsSlice r content first before (value_of d)
  slice_to d given h =
      let same = sizes_same r d.header in
      record {
        start = h.is_header.end;
        begins = header_to d.header h.start h.is_header;
        coded = h.coded;
        sizes =
            subst (λ sizes. ArePlanesOfSizes (coded_depth_of r) sizes h.coded) same
            (coded_sizes r d.header.tables (slice_sizes r d.header) content h.start before h.coded h.end h.are_coded);
        are_coded =
            subst (AreCodedPlanes r content d.header h.is_header.end before h.coded) (sym h.states)
            (coded_to d.header h.start h.end h.coded d.spare_bits d.is_clean given h.is_header
            (subst (λ sizes. AreCoded r d.header.tables sizes content h.start before h.coded h.end) same h.are_coded) h.ends
            (subst (FitSlice r d.header.tables) h.states h.fit));
        are_planes = planes_to r h.coded d.planes h.planes;
      }

  -- ---- to pictures

  header_from : (header : SliceHeader) (start : Coder) (begin : SliceStart) → StartsWithHeader r content first header start
      → FollowsHeader r content start begin → IsSliceHeaderOf r content first header begin
  header_from header start begin h follows =
      record { fields = h.fields; end = start; coded = h.coded; has_key = h.has_key; fits = h.fits; values = h.values; follows = follows }

  -- a picture with the header and the planes of a slice
  abbrev HasPicture : SliceValue → Type 0
  HasPicture slice = (d : SlicePictureValue) × IsSlicePicture r content first before d × (d.header ≡ slice.left.header) × (d.planes ≡ slice.planes)

  picture_by : (header : SliceHeader) (planes : List (List ℕ)) (states : SliceStatesValue) → FitSliceBefore r header.tables before
      → IsSlice r content first before (record { planes = planes; left = record { header = header; states = states } })
      → HasPicture (record { planes = planes; left = record { header = header; states = states } })
  picture_by header planes (range_states after) given h =
      let p = h.are_coded.0 in
      let end = the_end r content header h.start before h.coded after p in (
        record { header = header; planes = planes; spare_bits = 8 * end.spare; is_clean = is_clean end; states = range_states after },
        record {
          start = Samples (decoder r content header h.start before h.coded);
          is_header = header_from header h.start (Samples (decoder r content header h.start before h.coded)) h.begins (p.coder, refl);
          coded = h.coded;
          end = range_end p.end after;
          are_coded =
              subst (λ sizes. AreRangeCoded r header.tables sizes (decoder r content header h.start before h.coded) (rows_before r header.tables before)
              h.coded p.end after)
              (sym (sizes_same r header)) (range_from r content header h.start before h.coded after p h.sizes);
          planes = planes_from r h.coded planes h.are_planes;
          ends = ends_from r content header h.start before h.coded after p;
          states = refl;
          fit = (p.coder, h.are_coded.1);
        },
        refl,
        refl,
      )
  picture_by header planes (rice_states after) given h =
      let p = h.are_coded.0 in
      let is_header = header_from header h.start (Codes p.place) h.begins (p.coder, p.begin) in
      let within = header_within r content first header (Codes p.place) version is_header in
      let coded = codes_from r content header h.start before h.coded version within given after p h.sizes in
      let states = kept r content header h.start before h.coded version within given after p in
      let values = values_before r header.tables before given in (
        record { header = header; planes = planes; spare_bits = length p.rest; is_clean = is_clean_rest p.rest; states = rice_states states },
        record {
          start = Codes p.place;
          is_header = is_header;
          coded = h.coded;
          end = rice_end p.rest states;
          are_coded =
              subst (λ sizes. AreCodesCoded r header.tables sizes (bits_of (drop p.place content)) (codes_before r header.tables before) h.coded p.rest
              states)
              (sym (sizes_same r header)) coded;
          planes = planes_from r h.coded planes h.are_planes;
          ends = (refl, refl);
          states = refl;
          fit = (
            p.coder,
            kept_contexts r content header h.start before h.coded version within given after p h.are_coded.1,
            (values_after_planes (shape r header h.coded) h.coded values.0, coded.left values.0 values.1),
          );
        },
        refl,
        refl,
      )

  pub slice_from : (slice : SliceValue) → FitSliceBefore r slice.left.header.tables before → IsSlice r content first before slice → HasPicture slice
  slice_from slice given h = picture_by slice.left.header slice.planes slice.left.states given h
