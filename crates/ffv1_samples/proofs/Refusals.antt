-- A content that is refused has no picture, and is refused for one fault.
use Rattle.std.proofs.Common.{◌≡◌, ℕ, zero, suc, ◌+◌, ◌*◌, ◌/◌, ◌%◌, ◌<◌, ◌≤◌, Bool, true, List, length, Result, Err, refl, sym, ap, ◌∙◌, subst, arith, ⊎_elim}
use Rattle.std.specs.Prelude.{Option, slice_index}
use Rattle.std.proofs.lemmas.Bool.{cases_lt}
use Rattle.ffv1_range.specs.Setup.{RecordingValue, IsInVersion3}
use Rattle.ffv1_range.specs.SliceHeader.{IsSliceHeaderOf, slice_header_read}
use Rattle.ffv1_range.specs.declared.head.HeadFault.{HeadFault}
use Rattle.ffv1_range.specs.declared.head.SliceHeader.{SliceHeader}
use Rattle.ffv1_range.specs.declared.head.SliceStart.{SliceStart}
use Rattle.ffv1_range.proofs.TileLaws.{column_of, row_of}
use Rattle.ffv1_plane.specs.FirstRows.{rows_to}
use Rattle.ffv1_plane.specs.RangeSlices.{height_at}
use Rattle.ffv1_plane.specs.declared.planes.PlaneSize.{PlaneSize}
use Rattle.ffv1_samples.specs.States.{SliceStatesValue, FitSliceBefore}
use Rattle.ffv1_samples.specs.Sizes.{slice_rect, slice_sizes}
use Rattle.ffv1_samples.specs.Pictures.{HaveColors, IsFirstSample}
use Rattle.ffv1_samples.specs.Coded.{SamplesEnd, AreCoded, AreBegun, IsStuck}
use Rattle.ffv1_samples.specs.Slices.{SlicePictureValue, IsSlicePicture}
use Rattle.ffv1_samples.specs.Faults.{AreRowsCoded, HaveRowsColors, IsColorTooLarge, IsSampleFault, IsEndRefused}
use Rattle.ffv1_samples.specs.Laws.{RefusedHasNoPicture, RefusedForOne}
use Rattle.ffv1_samples.specs.Inner.Places.{IsOneSample}
use Rattle.ffv1_samples.specs.Inner.Headers.{IsHeaderWithin}
use Rattle.ffv1_samples.specs.Inner.Sizes.{AreSliceSizes}
use Rattle.ffv1_samples.specs.declared.faults.SampleFault.{SampleFault}
use Rattle.ffv1_samples.specs.declared.faults.SampleFault.TheVariants as sample_faults
use Rattle.ffv1_samples.specs.declared.faults.SliceFault.TheVariants as slice_faults
use Rattle.ffv1_samples.proofs.Headers.{header_within}
use Rattle.ffv1_samples.proofs.PlaneSizes.{first_within, rgb_size, rows_size, rows_of_rows, first_rows_fit, all_rows, slice_sizes_fit}
use Rattle.ffv1_samples.proofs.JudgedColors.{colors_of_planes, no_first_sample, one_first_sample, first_sample_on}
use Rattle.ffv1_samples.proofs.CodedPlanes.{coded_begun, begun_sizes, one_begun, first_begun, stuck_codes_nothing, stuck_is_one, stuck_not_begun, stuck_row_inside}
use Rattle.ffv1_samples.proofs.OnePicture.{no_ending, one_place, no_header, coded_here, ends_here}
use Rattle.ffv1_samples.proofs.Decoding.{there, rgb_of}

module _ (r : RecordingValue) (content : List ℕ) (first : Bool) (before : Option SliceStatesValue) (version : IsInVersion3 r) (header : SliceHeader) (start : SliceStart)
    (is : IsSliceHeaderOf r content first header start) (given : FitSliceBefore r header.tables before) where
  within : IsHeaderWithin r header
  within = header_within r content first header start version is

  sizes : List PlaneSize
  sizes = slice_sizes r header

  fit : AreSliceSizes r (slice_sizes r header)
  fit = slice_sizes_fit r header version within

  height_is : r.is_rgb ≡ true → height_at (slice_sizes r header) 0 ≡ (slice_rect r header).h
  height_is rgb = ap (λ (size : PlaneSize). size.height) (rgb_size r header rgb 0 (omega arith))

  rows_fit : (rows : ℕ) → rows ≤ (slice_rect r header).h → AreSliceSizes r (rows_to rows (slice_sizes r header))
  rows_fit rows few =
      let rect = first_within r header version within in
      first_rows_fit r (slice_sizes r header) rows fit (omega (arith, few, rect.few_rows))

  table_there : (group : ℕ) → group < 3 → slice_index header.tables group < length r.setup.sets
  table_there zero less = within.luma
  table_there (suc zero) less = within.chroma
  table_there (suc (suc zero)) less = within.alpha
  table_there (suc (suc (suc group))) less = absurd (omega (arith, less))

  -- ---- colours of some first rows

  -- the first sample outside, in fewer rows, is so in more
  sample_on : (rows more : ℕ) (coded planes : List (List ℕ)) (s plane : ℕ) → r.is_rgb ≡ true → rows ≤ more → more ≤ (slice_rect r header).h
      → AreRowsCoded r content header start before rows coded → AreRowsCoded r content header start before more planes → IsFirstSample r coded s plane
      → IsFirstSample r planes s plane
  sample_on rows more coded planes s plane rgb less few h k sample =
      let many = rows_to more (slice_sizes r header) in
      let some : 1 ≤ length (rows_to more (slice_sizes r header)) = omega arith in
      let height : height_at (rows_to more (slice_sizes r header)) 0 ≡ more =
      ap (λ (size : PlaneSize). size.height) (rows_size more (slice_sizes r header) 0 (omega arith)) in
      let front = first_begun r header.tables (rows_to more (slice_sizes r header)) rows content before planes version table_there (rows_fit more few) given rgb some
      (omega (arith, less, height)) start k in
      let begun = subst (λ l. AreBegun r header.tables l content start before front.firsts) (rows_of_rows rows more (slice_sizes r header)) front.begun in
      let same : coded ≡ front.firsts =
      one_begun r header.tables (rows_to rows (slice_sizes r header)) content start before coded front.firsts version (rows_fit rows (omega (arith, less, few))) given h begun in
      first_sample_on r (rows_to more (slice_sizes r header)) rows planes front.firsts (λ p inside. (rows_fit more few).alike rgb p inside) some
      (begun_sizes r header.tables (rows_to more (slice_sizes r header)) content start before planes k).count front.are s plane
      (subst (λ l. IsFirstSample r l s plane) same sample)

  colors_exclude : (plane y x more : ℕ) (planes : List (List ℕ)) (u : IsColorTooLarge r content header start before plane y x) → u.rows ≤ more
      → more ≤ (slice_rect r header).h → AreRowsCoded r content header start before more planes → HaveColors r planes → ⊥
  colors_exclude plane y x more planes u less few k colors =
      no_first_sample r planes (y * (slice_rect r header).w + x) plane colors
      (sample_on u.rows more u.coded planes (y * (slice_rect r header).w + x) plane u.colors less few u.are_coded k u.first)

  -- all rows
  all_coded : (coded : List (List ℕ)) (end : SamplesEnd) → r.is_rgb ≡ true → AreCoded r header.tables (slice_sizes r header) content start before coded end
      → AreRowsCoded r content header start before (slice_rect r header).h coded
  all_coded coded end rgb h =
      subst (λ l. AreBegun r header.tables l content start before coded) (sym (all_rows r header rgb))
      (coded_begun r header.tables (slice_sizes r header) content start before coded end h)

  whole_excludes : (plane y x : ℕ) (coded : List (List ℕ)) (end : SamplesEnd) → IsColorTooLarge r content header start before plane y x
      → AreCoded r header.tables (slice_sizes r header) content start before coded end → HaveColors r coded → ⊥
  whole_excludes plane y x coded end u h colors =
      colors_exclude plane y x (slice_rect r header).h coded u u.few (omega arith) (all_coded coded end u.colors h) colors

  -- ---- two faults

  one_color : (plane level y v x w : ℕ) → IsColorTooLarge r content header start before plane y x → IsColorTooLarge r content header start before level v w
      → IsOneSample sample_faults.ColorTooLarge sample_faults.ColorTooLarge plane level y v x w
  one_color plane level y v x w h k =
      let wide = (slice_rect r header).w in
      let same : (y * (slice_rect r header).w + x ≡ v * (slice_rect r header).w + w) × (plane ≡ level) = ⊎_elim
      (λ less.
      one_first_sample r k.coded (y * (slice_rect r header).w + x) (v * (slice_rect r header).w + w) plane level
      (sample_on h.rows k.rows h.coded k.coded (y * (slice_rect r header).w + x) plane h.colors (omega (arith, less)) k.few h.are_coded k.are_coded h.first) k.first)
      (λ more.
      one_first_sample r h.coded (y * (slice_rect r header).w + x) (v * (slice_rect r header).w + w) plane level h.first
      (sample_on k.rows h.rows k.coded h.coded (v * (slice_rect r header).w + w) level h.colors more h.few k.are_coded h.are_coded k.first))
      (cases_lt h.rows k.rows) in
      record {
        fault_same = refl;
        plane_same = same.1;
        row_same =
            sym (row_of (slice_rect r header).w x y h.column) ∙ ap (λ n. n / (slice_rect r header).w) same.0 ∙ row_of (slice_rect r header).w w v k.column;
        column_same =
            sym (column_of (slice_rect r header).w x y h.column) ∙ ap (λ n. n % (slice_rect r header).w) same.0 ∙ column_of (slice_rect r header).w w v k.column;
      }

  -- a sample that can't be read and a colour exclude each other
  stuck_or_color : (fault : SampleFault) (plane level y v x w : ℕ) → IsStuck r header.tables (slice_sizes r header) content start before fault level v w
      → HaveRowsColors r content header start before v → IsColorTooLarge r content header start before plane y x → ⊥
  stuck_or_color fault plane level y v x w s colors u = ⊎_elim
      (λ less.
      stuck_not_begun r header.tables (slice_sizes r header) u.rows content start before fault level v w u.coded version (rows_fit u.rows u.few) given u.colors
      (omega arith) (let high = height_is u.colors in omega (arith, high, u.few)) less s u.are_coded)
      (λ past.
      let before_row = colors u.colors in
      let inside = stuck_row_inside r header.tables (slice_sizes r header) content start before fault level v w given u.colors s in
      let high = height_is u.colors in
      colors_exclude plane y x v before_row.0 u past (omega (arith, inside, high)) before_row.1 before_row.2)
      (cases_lt v u.rows)

  one_stuck : (fault other : SampleFault) (plane level y v x w : ℕ) → IsStuck r header.tables (slice_sizes r header) content start before fault plane y x
      → IsStuck r header.tables (slice_sizes r header) content start before other level v w → IsOneSample fault other plane level y v x w
  one_stuck fault other plane level y v x w s t =
      stuck_is_one r header.tables (slice_sizes r header) content start before fault other plane level y v x w version fit given s t

  -- what a fault of a sample is
  data SampleCase (fault : SampleFault) (plane y x : ℕ) : Type 0 where
    is_color : fault ≡ sample_faults.ColorTooLarge → IsColorTooLarge r content header start before plane y x → SampleCase fault plane y x
    is_stuck : IsStuck r header.tables (slice_sizes r header) content start before fault plane y x → HaveRowsColors r content header start before y
        → SampleCase fault plane y x

  sample_case : (fault : SampleFault) (plane y x : ℕ) → IsSampleFault r content header start before fault plane y x → SampleCase fault plane y x
  sample_case sample_faults.ColorTooLarge plane y x h = is_color refl h
  sample_case (sample_faults.Code code) plane y x h = is_stuck h.0 h.1
  sample_case sample_faults.Short plane y x h = is_stuck h.0 h.1
  sample_case sample_faults.DifferenceTooLarge plane y x h = is_stuck h.0 h.1

  one_sample_by : (fault other : SampleFault) (plane level y v x w : ℕ) → SampleCase fault plane y x → SampleCase other level v w
      → IsOneSample fault other plane level y v x w
  one_sample_by fault other plane level y v x w (is_color f h) (is_color g k) =
      let one = one_color plane level y v x w h k in
      record { fault_same = f ∙ sym g; plane_same = one.plane_same; row_same = one.row_same; column_same = one.column_same }
  one_sample_by fault other plane level y v x w (is_color f h) (is_stuck t colors) = absurd (stuck_or_color other plane level y v x w t colors h)
  one_sample_by fault other plane level y v x w (is_stuck s colors) (is_color g k) = absurd (stuck_or_color fault level plane v y w x s colors k)
  one_sample_by fault other plane level y v x w (is_stuck s colors) (is_stuck t more) = one_stuck fault other plane level y v x w s t

  pub one_sample : (fault other : SampleFault) (plane level y v x w : ℕ) → IsSampleFault r content header start before fault plane y x
      → IsSampleFault r content header start before other level v w → slice_faults.Code fault plane y x ≡ slice_faults.Code other level v w
  one_sample fault other plane level y v x w h k =
      let one = one_sample_by fault other plane level y v x w (sample_case fault plane y x h) (sample_case other level v w k) in
      ap (λ f. slice_faults.Code f plane y x) one.fault_same ∙ ap (λ p. slice_faults.Code other p y x) one.plane_same
      ∙ ap (λ n. slice_faults.Code other level n x) one.row_same ∙ ap (λ n. slice_faults.Code other level v n) one.column_same

  -- a fault of a sample and planes with colours exclude each other
  sample_excludes_by : (fault : SampleFault) (plane y x : ℕ) (coded : List (List ℕ)) (end : SamplesEnd) → SampleCase fault plane y x
      → AreCoded r header.tables (slice_sizes r header) content start before coded end → (r.is_rgb ≡ true → HaveColors r coded) → ⊥
  sample_excludes_by fault plane y x coded end (is_color f h) k colors = whole_excludes plane y x coded end h k (colors h.colors)
  sample_excludes_by fault plane y x coded end (is_stuck s rows) k colors =
      stuck_codes_nothing r header.tables (slice_sizes r header) content start before fault plane y x coded end version fit given s k

  pub sample_excludes : (fault : SampleFault) (plane y x : ℕ) (coded : List (List ℕ)) (end : SamplesEnd) → IsSampleFault r content header start before fault plane y x
      → AreCoded r header.tables (slice_sizes r header) content start before coded end → (r.is_rgb ≡ true → HaveColors r coded) → ⊥
  sample_excludes fault plane y x coded end h k colors = sample_excludes_by fault plane y x coded end (sample_case fault plane y x h) k colors

  pub end_excludes : IsEndRefused r content header start before → (picture : SlicePictureValue) → IsSlicePicture r content first before picture → ⊥
  end_excludes h picture k =
      let other = coded_here r content first before version header start is picture k in
      let place = one_place r header.tables (slice_sizes r header) content start before h.coded k.coded h.end k.end version fit given h.are_coded other in
      no_ending start h.end k.end picture.spare_bits picture.is_clean place h.refused (ends_here r content first before version header start is picture k)

-- ---- the laws

pub refused_has_no_picture : RefusedHasNoPicture
refused_has_no_picture r content first before (slice_faults.Head fault) picture version given h k =
    no_header r content first picture.header k.start fault h k.is_header
refused_has_no_picture r content first before (slice_faults.Code fault plane y x) picture version given h k =
    let here = there r content first before version picture.header k.start k.is_header (λ a b. IsSampleFault r content a b before fault plane y x) h in
    sample_excludes r content first before version picture.header k.start k.is_header (given picture.header k.start k.is_header) fault plane y x k.coded k.end here
    k.are_coded (λ rgb. colors_of_planes r k.coded picture.planes (rgb_of r k.coded picture.planes rgb k.planes))
refused_has_no_picture r content first before slice_faults.End picture version given h k =
    end_excludes r content first before version h.0 h.1 h.2 (given h.0 h.1 h.2) h.3 picture k
refused_has_no_picture r content first before slice_faults.Memory picture version given h k = h

same_head : (result : Result (SliceHeader × SliceStart) HeadFault) (fault other : HeadFault) → result ≡ Err fault → result ≡ Err other
    → slice_faults.Head fault ≡ slice_faults.Head other
same_head result fault other h k =
    let e : ◌≡◌ {A = Result (SliceHeader × SliceStart) HeadFault} (Err fault) (Err other) = sym h ∙ k in
    let same : fault ≡ other = cc in ap slice_faults.Head same

pub refused_for_one : RefusedForOne
refused_for_one r content first before (slice_faults.Head fault) (slice_faults.Head other) version given h k =
    same_head (slice_header_read r content first) fault other h k
refused_for_one r content first before (slice_faults.Head fault) (slice_faults.Code other plane y x) version given h k =
    absurd (no_header r content first k.0 k.1 fault h k.2)
refused_for_one r content first before (slice_faults.Head fault) slice_faults.End version given h k = absurd (no_header r content first k.0 k.1 fault h k.2)
refused_for_one r content first before (slice_faults.Code fault plane y x) (slice_faults.Head other) version given h k =
    absurd (no_header r content first h.0 h.1 other k h.2)
refused_for_one r content first before (slice_faults.Code fault plane y x) (slice_faults.Code other level v w) version given h k =
    let here = there r content first before version h.0 h.1 h.2 (λ a b. IsSampleFault r content a b before other level v w) k in
    one_sample r content first before version h.0 h.1 h.2 (given h.0 h.1 h.2) fault other plane level y v x w h.3 here
refused_for_one r content first before (slice_faults.Code fault plane y x) slice_faults.End version given h k =
    let here = there r content first before version h.0 h.1 h.2 (λ a b. IsEndRefused r content a b before) k in
    absurd (sample_excludes r content first before version h.0 h.1 h.2 (given h.0 h.1 h.2) fault plane y x here.coded here.end h.3 here.are_coded here.colors)
refused_for_one r content first before slice_faults.End (slice_faults.Head other) version given h k = absurd (no_header r content first h.0 h.1 other k h.2)
refused_for_one r content first before slice_faults.End (slice_faults.Code other plane y x) version given h k =
    let here = there r content first before version h.0 h.1 h.2 (λ a b. IsSampleFault r content a b before other plane y x) k in
    absurd (sample_excludes r content first before version h.0 h.1 h.2 (given h.0 h.1 h.2) other plane y x h.3.coded h.3.end here h.3.are_coded h.3.colors)
refused_for_one r content first before slice_faults.End slice_faults.End version given h k = refl
refused_for_one r content first before slice_faults.Memory other version given h k = absurd h
refused_for_one r content first before (slice_faults.Head fault) slice_faults.Memory version given h k = absurd k
refused_for_one r content first before (slice_faults.Code fault plane y x) slice_faults.Memory version given h k = absurd k
refused_for_one r content first before slice_faults.End slice_faults.Memory version given h k = absurd k
