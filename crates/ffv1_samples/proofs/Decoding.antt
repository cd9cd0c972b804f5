-- What a content's header and the planes after it give: the picture, or why there is none.
use Rattle.std.proofs.Common.{◌≡◌, ℕ, ◌+◌, ◌*◌, ◌<◌, ◌≤◌, ◌⊎◌, Bool, true, List, length, Result, Ok, Err, refl, sym, ap, subst, arith, inl, inr}
use Rattle.std.specs.Prelude.{Option, MatchBool, MatchResult, IfOk, IfErr}
use Rattle.ffv1_range.specs.Setup.{RecordingValue, IsInVersion3}
use Rattle.ffv1_range.specs.SliceHeader.{IsSliceHeaderOf}
use Rattle.ffv1_range.specs.declared.head.SliceHeader.{SliceHeader}
use Rattle.ffv1_range.specs.declared.head.SliceStart.{SliceStart}
use Rattle.ffv1_plane.specs.FirstRows.{rows_to}
use Rattle.ffv1_plane.specs.RangeSlices.{height_at}
use Rattle.ffv1_plane.specs.declared.planes.PlaneSize.{PlaneSize}
use Rattle.ffv1_samples.specs.States.{SliceStatesValue, FitSlice, FitSliceBefore}
use Rattle.ffv1_samples.specs.Sizes.{slice_rect, slice_sizes}
use Rattle.ffv1_samples.specs.Pictures.{HaveColors, AreRgbPlanes, ArePicturePlanes, IsFirstSample}
use Rattle.ffv1_samples.specs.Coded.{SamplesEnd, states_at, AreCoded, AreBegun, IsStuck}
use Rattle.ffv1_samples.specs.Slices.{SlicePictureValue, slice_picture_value, IsSlicePicture, IsSamePicture, FitContent}
use Rattle.ffv1_samples.specs.Faults.{AreRowsCoded, HaveRowsColors, AfterHeader, IsSliceFault}
use Rattle.ffv1_samples.specs.CodedFaults.{slice_fault_of}
use Rattle.ffv1_samples.specs.Inner.Coded.{IsReaderAt, IsCodedFault, IsFinished, IsUnfinished}
use Rattle.ffv1_samples.specs.Inner.Planes.{IsJudgedFault}
use Rattle.ffv1_samples.specs.Inner.Sizes.{AreSliceSizes}
use Rattle.ffv1_samples.specs.Inner.Faults.{HaveFirstColors, IsRowsSampleFault, IsRowsFault}
use Rattle.ffv1_samples.specs.declared.faults.SampleFault.{SampleFault}
use Rattle.ffv1_samples.specs.declared.faults.SampleFault.TheVariants as sample_faults
use Rattle.ffv1_samples.specs.declared.faults.SliceFault.{SliceFault}
use Rattle.ffv1_samples.specs.declared.faults.SliceFault.TheVariants as slice_faults
use Rattle.ffv1_samples.specs.declared.reading.SliceReader.{SliceReader}
use Rattle.ffv1_samples.specs.declared.reading.CodedFault.{CodedFault}
use Rattle.ffv1_samples.specs.declared.reading.CodedFault.TheVariants as coded_faults
use Rattle.ffv1_samples.specs.declared.slice.SlicePicture.{SlicePicture}
use Rattle.ffv1_samples.proofs.Headers.{header_within}
use Rattle.ffv1_samples.proofs.PlaneSizes.{first_within, rgb_size, slice_sizes_fit, first_rows_fit, all_rows}
use Rattle.ffv1_samples.proofs.JudgedColors.{colors_of_planes, no_first_sample}
use Rattle.ffv1_samples.proofs.CodedPlanes.{coded_begun, one_coded, stuck_codes_nothing, stuck_is_one, stuck_in_rows, stuck_row_inside, stuck_no_color}
use Rattle.ffv1_samples.proofs.OnePicture.{one_slice_picture, no_ending, one_place, one_header, no_header, coded_here, ends_here}

-- the planes of RGB are coded of colours
pub rgb_of : (r : RecordingValue) (coded planes : List (List ℕ)) → r.is_rgb ≡ true → ArePicturePlanes r coded planes → AreRgbPlanes r coded planes
rgb_of r coded planes is h = subst (λ b. MatchBool b (AreRgbPlanes r coded planes) (planes ≡ coded)) is h

module _ (r : RecordingValue) (content : List ℕ) (first : Bool) (before : Option SliceStatesValue) (version : IsInVersion3 r) (header : SliceHeader) (start : SliceStart)
    (is : IsSliceHeaderOf r content first header start) where
  sizes_are : AreSliceSizes r (slice_sizes r header)
  sizes_are = slice_sizes_fit r header version (header_within r content first header start version is)

  -- what follows any header of the content follows this one
  pub there : (P : SliceHeader → SliceStart → Type 0) → AfterHeader r content first P → P header start
  there P h =
      subst (λ (z : SliceHeader × SliceStart). P z.0 z.1) (one_header r content first h.0 header h.1 start h.2 is) h.3

  height_is : r.is_rgb ≡ true → height_at (slice_sizes r header) 0 ≡ (slice_rect r header).h
  height_is rgb =
      ap (λ (size : PlaneSize). size.height) (rgb_size r header rgb 0 (omega arith))

  -- ---- planes that were read

  module _ (coded : List (List ℕ)) (end : SamplesEnd) (after : SliceReader)
      (h : AreCoded r header.tables (slice_sizes r header) content start before coded end) (reader : IsReaderAt start after end)
      (fit : FitSlice r header.tables (states_at end)) where
    pub picture_is : (picture : SlicePictureValue) → IsFinished r header coded after picture → IsSlicePicture r content first before picture
    picture_is picture done =
        let ending = done.end start end reader in
        record {
          start = start;
          is_header = subst (λ x. IsSliceHeaderOf r content first x start) (sym done.header_is) is;
          coded = coded;
          end = end;
          are_coded = subst (λ (x : SliceHeader). AreCoded r x.tables (slice_sizes r x) content start before coded end) (sym done.header_is) h;
          planes = done.planes;
          ends = ending.0;
          states = ending.1;
          fit = subst (λ (x : SliceHeader). FitSlice r x.tables picture.states) (sym done.header_is) (subst (FitSlice r header.tables) (sym ending.1) fit);
        }

    pub unfinished_is : (width : ℕ) (fault : SliceFault) → width ≡ (slice_rect r header).w → IsUnfinished r coded width after fault
        → (fault ≡ slice_faults.Memory) ⊎ IsSliceFault r content first before fault
    unfinished_is width (slice_faults.Code sample_faults.ColorTooLarge plane y x) wide u = inr (
      header,
      start,
      is,
      record {
        colors = u.0;
        rows = (slice_rect r header).h;
        few = omega arith;
        coded = coded;
        are_coded =
            subst (λ sizes. AreBegun r header.tables sizes content start before coded) (sym (all_rows r header u.0))
            (coded_begun r header.tables (slice_sizes r header) content start before coded end h);
        column = subst (λ w. x < w) wide u.1;
        first = subst (λ w. IsFirstSample r coded (y * w + x) plane) wide u.2;
      },
    )
    unfinished_is width (slice_faults.Code (sample_faults.Code code) plane y x) wide u = absurd u
    unfinished_is width (slice_faults.Code sample_faults.Short plane y x) wide u = absurd u
    unfinished_is width (slice_faults.Code sample_faults.DifferenceTooLarge plane y x) wide u = absurd u
    unfinished_is width (slice_faults.Head fault) wide u = absurd u
    unfinished_is width slice_faults.Memory wide u = inl refl
    unfinished_is width slice_faults.End wide u = inr (
      header,
      start,
      is,
      record {
        coded = coded;
        end = end;
        are_coded = h;
        colors = λ rgb. colors_of_planes r coded u.0 (rgb_of r coded u.0 rgb u.1);
        refused = u.2.1 start end reader;
      },
    )

    -- where the content has a picture, there is no other reason than want of memory
    pub unfinished_has_no_picture : (width : ℕ) (fault : SliceFault) (picture : SlicePictureValue) → FitSliceBefore r header.tables before
        → IsUnfinished r coded width after fault → IsSlicePicture r content first before picture → fault ≡ slice_faults.Memory
    unfinished_has_no_picture width (slice_faults.Code sample_faults.ColorTooLarge plane y x) picture given u k =
        let other = coded_here r content first before version header start is picture k in
        let same = one_coded r header.tables (slice_sizes r header) content start before k.coded coded k.end end version sizes_are given other h in
        let colors = colors_of_planes r k.coded picture.planes (rgb_of r k.coded picture.planes u.0 k.planes) in
        absurd (no_first_sample r coded (y * width + x) plane (subst (HaveColors r) same colors) u.2)
    unfinished_has_no_picture width (slice_faults.Code (sample_faults.Code code) plane y x) picture given u k = absurd u
    unfinished_has_no_picture width (slice_faults.Code sample_faults.Short plane y x) picture given u k = absurd u
    unfinished_has_no_picture width (slice_faults.Code sample_faults.DifferenceTooLarge plane y x) picture given u k = absurd u
    unfinished_has_no_picture width (slice_faults.Head fault) picture given u k = absurd u
    unfinished_has_no_picture width slice_faults.Memory picture given u k = refl
    unfinished_has_no_picture width slice_faults.End picture given u k =
        let other = coded_here r content first before version header start is picture k in
        let place = one_place r header.tables (slice_sizes r header) content start before coded k.coded end k.end version sizes_are given h other in
        absurd (no_ending start end k.end picture.spare_bits picture.is_clean place (u.2.1 start end reader)
        (ends_here r content first before version header start is picture k))

    -- ---- the same of a result

    pub result_ok : (result : Result SlicePicture SliceFault) → IfOk result (λ picture. IsFinished r header coded after (slice_picture_value picture))
        → IfOk result (λ picture. IsSlicePicture r content first before (slice_picture_value picture))
    result_ok (Ok picture) done = picture_is (slice_picture_value picture) done
    result_ok (Err fault) done = tt

    pub result_err : (width : ℕ) → width ≡ (slice_rect r header).w → (result : Result SlicePicture SliceFault) → IfErr result (IsUnfinished r coded width after)
        → IfErr result (λ fault. (fault ≡ slice_faults.Memory) ⊎ IsSliceFault r content first before fault)
    result_err width wide (Ok picture) u = tt
    result_err width wide (Err fault) u = unfinished_is width fault wide u

    pub result_found : (width : ℕ) → FitContent r content first before → (result : Result SlicePicture SliceFault)
        → IfOk result (λ picture. IsFinished r header coded after (slice_picture_value picture)) → IfErr result (IsUnfinished r coded width after)
        → (picture : SlicePictureValue) → IsSlicePicture r content first before picture
        → MatchResult result (λ read. IsSamePicture r (slice_picture_value read) picture) (λ fault. fault ≡ slice_faults.Memory)
    result_found width given (Ok found) done u picture k =
        one_slice_picture r content first before (slice_picture_value found) picture version given (picture_is (slice_picture_value found) done) k
    result_found width given (Err fault) done u picture k = unfinished_has_no_picture width fault picture (given header start is) u k

  -- ---- a sample that is stuck

  module _ (fault : SampleFault) (plane y x : ℕ) (given : FitSliceBefore r header.tables before)
      (s : IsStuck r header.tables (slice_sizes r header) content start before fault plane y x) where
    pub rows_inside : r.is_rgb ≡ true → y ≤ (slice_rect r header).h
    rows_inside rgb =
        let less = stuck_row_inside r header.tables (slice_sizes r header) content start before fault plane y x given rgb s in
        omega (arith, less, height_is rgb)

    pub stuck_has_no_picture : (picture : SlicePictureValue) → IsSlicePicture r content first before picture → ⊥
    stuck_has_no_picture picture k =
        stuck_codes_nothing r header.tables (slice_sizes r header) content start before fault plane y x k.coded k.end version sizes_are given s
        (coded_here r content first before version header start is picture k)

    -- it is refused so where the rows before have colours
    pub stuck_is_fault : (r.is_rgb ≡ true → HaveFirstColors r content first before y) → IsSliceFault r content first before (slice_faults.Code fault plane y x)
    stuck_is_fault colors = by_fault fault s
      where
        rows : HaveRowsColors r content header start before y
        rows rgb = there (λ h b. (coded : List (List ℕ)) × AreRowsCoded r content h b before y coded × HaveColors r coded) (colors rgb)

        by_fault : (f : SampleFault) → IsStuck r header.tables (slice_sizes r header) content start before f plane y x
            → IsSliceFault r content first before (slice_faults.Code f plane y x)
        by_fault sample_faults.ColorTooLarge t =
            absurd (stuck_no_color r header.tables (slice_sizes r header) content start before plane y x t)
        by_fault (sample_faults.Code code) t = (header, start, is, (t, rows))
        by_fault sample_faults.Short t = (header, start, is, (t, rows))
        by_fault sample_faults.DifferenceTooLarge t = (header, start, is, (t, rows))

    -- and else for what its first rows give
    pub rows_give : (other : SliceFault) → r.is_rgb ≡ true → IsRowsFault r content first before y other
        → (other ≡ slice_faults.Memory) ⊎ IsSliceFault r content first before other
    rows_give (slice_faults.Head head) rgb f = absurd (no_header r content first header start head f is)
    rows_give (slice_faults.Code f p v u) rgb h = by_fault f h
      where
        not_stuck : (g : SampleFault) → IsStuck r header.tables (rows_to y (slice_sizes r header)) content start before g p v u → ⊥
        not_stuck g t =
            let least : 1 ≤ length (slice_sizes r header) = omega arith in
            let few : y ≤ height_at (slice_sizes r header) 0 = omega (arith, rows_inside rgb, height_is rgb) in
            let all = stuck_in_rows r header.tables (slice_sizes r header) y content start before g p v u given rgb least few t in
            let one = stuck_is_one r header.tables (slice_sizes r header) content start before g fault p plane v y u x version sizes_are given all.0 s in
            omega (arith, all.1, one.row_same)

        by_fault : (g : SampleFault) → AfterHeader r content first (λ header start. IsRowsSampleFault r content header start before y g p v u)
            → (slice_faults.Code g p v u ≡ slice_faults.Memory) ⊎ IsSliceFault r content first before (slice_faults.Code g p v u)
        by_fault sample_faults.ColorTooLarge k = inr k
        by_fault (sample_faults.Code code) k =
            absurd (not_stuck (sample_faults.Code code) (there (λ a b. IsRowsSampleFault r content a b before y (sample_faults.Code code) p v u) k))
        by_fault sample_faults.Short k =
            absurd (not_stuck sample_faults.Short (there (λ a b. IsRowsSampleFault r content a b before y sample_faults.Short p v u) k))
        by_fault sample_faults.DifferenceTooLarge k =
            absurd (not_stuck sample_faults.DifferenceTooLarge (there (λ a b. IsRowsSampleFault r content a b before y sample_faults.DifferenceTooLarge p v u) k))
    rows_give slice_faults.End rgb f = absurd f
    rows_give slice_faults.Memory rgb f = inl refl

  -- what can't be read codes no picture
  pub refused_has_no_picture : (fault : CodedFault) → FitSliceBefore r header.tables before
      → IsCodedFault r header.tables (slice_sizes r header) content start before fault → (picture : SlicePictureValue) → IsSlicePicture r content first before picture
      → fault ≡ coded_faults.Memory
  refused_has_no_picture (coded_faults.Sample fault plane y x) given s picture k = absurd (stuck_has_no_picture fault plane y x given s picture k)
  refused_has_no_picture coded_faults.Memory given s picture k = refl

  -- ---- first rows that were read

  module _ (rows : ℕ) (few : rows ≤ (slice_rect r header).h) (rgb : r.is_rgb ≡ true) where
    pub rows_fit : AreSliceSizes r (rows_to rows (slice_sizes r header))
    rows_fit =
        let within = first_within r header version (header_within r content first header start version is) in
        first_rows_fit r (slice_sizes r header) rows sizes_are (omega (arith, few, within.few_rows))

    pub judged_rows : (coded : List (List ℕ)) (end : SamplesEnd) (width : ℕ) (fault : SliceFault)
        → AreCoded r header.tables (rows_to rows (slice_sizes r header)) content start before coded end → width ≡ (slice_rect r header).w
        → IsJudgedFault r coded width fault → IsRowsFault r content first before rows fault
    judged_rows coded end width (slice_faults.Code sample_faults.ColorTooLarge plane y x) h wide u = (
      header,
      start,
      is,
      record {
        colors = u.0;
        rows = rows;
        few = few;
        coded = coded;
        are_coded = coded_begun r header.tables (rows_to rows (slice_sizes r header)) content start before coded end h;
        column = subst (λ w. x < w) wide u.1;
        first = subst (λ w. IsFirstSample r coded (y * w + x) plane) wide u.2;
      },
    )
    judged_rows coded end width (slice_faults.Code (sample_faults.Code code) plane y x) h wide u = absurd u
    judged_rows coded end width (slice_faults.Code sample_faults.Short plane y x) h wide u = absurd u
    judged_rows coded end width (slice_faults.Code sample_faults.DifferenceTooLarge plane y x) h wide u = absurd u
    judged_rows coded end width (slice_faults.Head fault) h wide u = absurd u
    judged_rows coded end width slice_faults.End h wide u = absurd u
    judged_rows coded end width slice_faults.Memory h wide u = tt

    pub rows_colors : (coded planes : List (List ℕ)) (end : SamplesEnd)
        → AreCoded r header.tables (rows_to rows (slice_sizes r header)) content start before coded end → ArePicturePlanes r coded planes
        → HaveFirstColors r content first before rows
    rows_colors coded planes end h p =
        (header, start, is, (coded, coded_begun r header.tables (rows_to rows (slice_sizes r header)) content start before coded end h, colors_of_planes r coded planes (rgb_of r coded planes rgb p)))

    pub rows_stuck : (fault : SampleFault) (plane y x : ℕ) → IsStuck r header.tables (rows_to rows (slice_sizes r header)) content start before fault plane y x
        → IsRowsFault r content first before rows (slice_faults.Code fault plane y x)
    rows_stuck sample_faults.ColorTooLarge plane y x s =
        absurd (stuck_no_color r header.tables (rows_to rows (slice_sizes r header)) content start before plane y x s)
    rows_stuck (sample_faults.Code code) plane y x s = (header, start, is, s)
    rows_stuck sample_faults.Short plane y x s = (header, start, is, s)
    rows_stuck sample_faults.DifferenceTooLarge plane y x s = (header, start, is, s)

    pub rows_refused : (fault : CodedFault) → IsCodedFault r header.tables (rows_to rows (slice_sizes r header)) content start before fault
        → IsRowsFault r content first before rows (slice_fault_of fault)
    rows_refused (coded_faults.Sample fault plane y x) s = rows_stuck fault plane y x s
    rows_refused coded_faults.Memory s = tt
