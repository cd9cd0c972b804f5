-- A content has one picture.
use Rattle.std.proofs.Common.{◌≡◌, ℕ, zero, suc, ◌*◌, ◌<◌, ◌≤◌, Bool, true, false, List, [], length, Result, Ok, Err, nat_abs, refl, sym, ap, ◌∙◌, subst, arith, drop}
use Rattle.std.specs.Prelude.{Option, MatchBool}
use Rattle.std.proofs.lemmas.List.{ext_get_or}
use Rattle.ffv1_range.specs.Coding.{Coder}
use Rattle.ffv1_range.specs.Decoder.{reader_at, reads_bit, EndsSo, is_clean}
use Rattle.ffv1_range.specs.Setup.{RecordingValue, IsInVersion3}
use Rattle.ffv1_range.specs.SliceHeader.{IsSliceHeaderOf, slice_header_read}
use Rattle.ffv1_range.specs.declared.coding.RangeEnd.{RangeEnd}
use Rattle.ffv1_range.specs.declared.coding.RangeFault.{RangeFault}
use Rattle.ffv1_range.specs.declared.head.HeadFault.{HeadFault}
use Rattle.ffv1_range.specs.declared.head.SliceHeader.{SliceHeader}
use Rattle.ffv1_range.specs.declared.head.SliceStart.{SliceStart}
use Rattle.ffv1_range.specs.declared.head.SliceStart.TheVariants.{Codes, Samples}
use Rattle.ffv1_range.proofs.SliceHeaderFound.{slice_header_run}
use Rattle.ffv1_range.proofs.Spelling.{same_ok}
use Rattle.ffv1_colors.specs.Colors.{colors_of}
use Rattle.ffv1_colors.specs.Planes.{coded_at}
use Rattle.ffv1_colors.proofs.Back.{colors_are_back}
use Rattle.ffv1_samples.specs.States.{SliceStatesValue, FitSlice, AreSameStates, FitSliceBefore, rows_before, codes_before}
use Rattle.ffv1_samples.specs.Sizes.{slice_sizes}
use Rattle.ffv1_samples.specs.Pictures.{color_coding, slice_plane_at, three_planes, AreRgbPlanes, ArePicturePlanes}
use Rattle.ffv1_samples.specs.Coded.{SamplesEnd, range_end, rice_end, is_clean_rest, states_at, AreCoded, EndsWith, HasNoEnd}
use Rattle.ffv1_samples.specs.Slices.{SlicePictureValue, IsSlicePicture}
use Rattle.ffv1_samples.specs.Laws.{OneSlicePicture}
use Rattle.ffv1_plane.specs.declared.planes.PlaneSize.{PlaneSize}
use Rattle.ffv1_samples.specs.Inner.Sizes.{AreSliceSizes}
use Rattle.ffv1_samples.proofs.Headers.{header_within}
use Rattle.ffv1_samples.proofs.PlaneSizes.{slice_sizes_fit}
use Rattle.ffv1_samples.proofs.CodedPlanes.{coded_sizes, of_recording, AreSameEnds, one_coded, one_end, one_range, one_codes}
use Rattle.ffv1_samples.proofs.Codes.{values_before}
use Rattle.ffv1_bits.specs.Bits.{bits_of}

-- ---- one list of planes

module _ (r : RecordingValue) (coded planes others : List (List ℕ)) (few : r.is_rgb ≡ true → length coded ≤ 4) where
  module _ (h : AreRgbPlanes r coded planes) (k : AreRgbPlanes r coded others) where
    same_colors : (s : ℕ) → s < length (slice_plane_at coded 0) → coded_at (three_planes planes) s ≡ coded_at (three_planes others) s
    same_colors s less =
        let c = color_coding r in
        sym (colors_are_back.colors (color_coding r) (coded_at (three_planes planes) s))
        ∙ ap (colors_of (color_coding r)) (h.colors.coded_so s less ∙ sym (k.colors.coded_so s less))
        ∙ colors_are_back.colors (color_coding r) (coded_at (three_planes others) s)

    first_same : slice_plane_at planes 0 ≡ slice_plane_at others 0
    first_same =
        ext_get_or 0 (slice_plane_at planes 0) (slice_plane_at others 0) (h.colors.first_long ∙ sym k.colors.first_long)
        (λ s less. ap (λ z. nat_abs z.first) (same_colors s (omega (arith, less, h.colors.first_long))))

    second_same : slice_plane_at planes 1 ≡ slice_plane_at others 1
    second_same =
        ext_get_or 0 (slice_plane_at planes 1) (slice_plane_at others 1) (h.colors.second_long ∙ sym k.colors.second_long)
        (λ s less. ap (λ z. nat_abs z.second) (same_colors s (omega (arith, less, h.colors.second_long))))

    third_same : slice_plane_at planes 2 ≡ slice_plane_at others 2
    third_same =
        ext_get_or 0 (slice_plane_at planes 2) (slice_plane_at others 2) (h.colors.third_long ∙ sym k.colors.third_long)
        (λ s less. ap (λ z. nat_abs z.third) (same_colors s (omega (arith, less, h.colors.third_long))))

    each_same : length coded ≤ 4 → (p : ℕ) → p < length planes → slice_plane_at planes p ≡ slice_plane_at others p
    each_same most zero less = first_same
    each_same most (suc zero) less = second_same
    each_same most (suc (suc zero)) less = third_same
    each_same most (suc (suc (suc zero))) less = h.alpha ∙ sym k.alpha
    each_same most (suc (suc (suc (suc p)))) less = absurd (omega (arith, less, most, h.count))

  one_by : (b : Bool) → r.is_rgb ≡ b → MatchBool b (AreRgbPlanes r coded planes) (planes ≡ coded) → MatchBool b (AreRgbPlanes r coded others) (others ≡ coded)
      → planes ≡ others
  one_by true is h k = ext_get_or [] planes others (h.count ∙ sym k.count) (each_same h k (few is))
  one_by false is h k = h ∙ sym k

  pub one_planes : ArePicturePlanes r coded planes → ArePicturePlanes r coded others → planes ≡ others
  one_planes h k = one_by r.is_rgb refl h k

-- ---- one end

end_is : (a b : RangeEnd) → a.bit ≡ b.bit → a.low ≡ b.low → a.spare ≡ b.spare → a ≡ b
end_is a b bit low spare =
    ap (λ x. record { bit = x; low = a.low; spare = a.spare }) bit
    ∙ ap (λ x. record { bit = b.bit; low = x; spare = a.spare }) low
    ∙ ap (λ x. record { bit = b.bit; low = b.low; spare = x }) spare

one_range_end : (result : Result (Bool × Coder) RangeFault) (a b : RangeEnd) (c d : Coder) → result ≡ Ok (a.bit, c) → result ≡ Ok (b.bit, d) → a.low ≡ c.low
    → b.low ≡ d.low → a.spare ≡ length c.rest → b.spare ≡ length d.rest → a ≡ b
one_range_end result a b c d h k low deep spare left =
    let same : ◌≡◌ {A = Bool × Coder} (a.bit, c) (b.bit, d) = same_ok {E = RangeFault} (a.bit, c) (b.bit, d) (sym h ∙ k) in
    end_is a b (ap (λ z. z.0) same) (low ∙ ap (λ z. z.1.low) same ∙ sym deep) (spare ∙ ap (λ z. length z.1.rest) same ∙ sym left)

pub one_ending : (r : RecordingValue) (start : SliceStart) (end last : SamplesEnd) (spare left : ℕ) (clean other : Bool) → AreSameEnds r end last
    → EndsWith start end spare clean → EndsWith start last left other → (spare ≡ left) × (clean ≡ other)
one_ending r (Samples decoder) (range_end last after) (range_end end later) spare left clean other same h k =
    let there = subst (λ c. EndsSo (reader_at decoder (Ok c)) (Ok h.0)) same.0 h.1 in
    let one = one_range_end (reads_bit (reader_at decoder (Ok end)) 129) h.0 k.0 there.0 k.1.0 there.1 k.1.1 there.2 k.1.2 there.3 k.1.3 in
    (h.2 ∙ ap (λ (z : RangeEnd). 8 * z.spare) one ∙ sym k.2, h.3 ∙ ap is_clean one ∙ sym k.3)
one_ending r (Codes place) (rice_end rest after) (rice_end tail later) spare left clean other same h k =
    (h.0 ∙ ap length same.0 ∙ sym k.0, h.1 ∙ ap is_clean_rest same.0 ∙ sym k.1)
one_ending r (Codes place) (range_end last after) end spare left clean other same h k = absurd h
one_ending r (Codes place) (rice_end rest after) (range_end end later) spare left clean other same h k = absurd k
one_ending r (Samples decoder) (rice_end rest after) end spare left clean other same h k = absurd h
one_ending r (Samples decoder) (range_end last after) (rice_end tail later) spare left clean other same h k = absurd k

-- the samples end in one place
abbrev pub AreSamePlaces : SamplesEnd → SamplesEnd → Type 0
AreSamePlaces (range_end last after) (range_end end later) = last ≡ end
AreSamePlaces (rice_end rest after) (rice_end tail later) = rest ≡ tail
AreSamePlaces end last = ⊥

pub no_ending : (start : SliceStart) (end last : SamplesEnd) (spare : ℕ) (clean : Bool) → AreSamePlaces end last
    → HasNoEnd start end → EndsWith start last spare clean → ⊥
no_ending (Samples decoder) (range_end last after) (range_end end later) spare clean same h k =
    let there = subst (λ c. reads_bit (reader_at decoder (Ok c)) 129 ≡ Err h.0) same h.1 in
    let apart : ◌≡◌ {A = Result (Bool × Coder) RangeFault} (Err h.0) (Ok (k.0.bit, k.1.0)) = sym there ∙ k.1.1 in cc
no_ending (Codes place) end last spare clean same h k = absurd (no_end end h)
  where
    no_end : (end : SamplesEnd) → HasNoEnd (Codes place) end → ⊥
    no_end (range_end last after) h = h
    no_end (rice_end rest after) h = h
no_ending (Samples decoder) (rice_end rest after) end spare clean same h k = absurd h
no_ending (Samples decoder) (range_end last after) (rice_end tail later) spare clean same h k = absurd k

pub one_place : (r : RecordingValue) (sets : List ℕ) (sizes : List PlaneSize) (content : List ℕ) (start : SliceStart) (before : Option SliceStatesValue)
    (planes others : List (List ℕ)) (end last : SamplesEnd) → IsInVersion3 r → AreSliceSizes r sizes → FitSliceBefore r sets before
    → AreCoded r sets sizes content start before planes end → AreCoded r sets sizes content start before others last → AreSamePlaces end last
one_place r sets sizes content (Samples decoder) before planes others (range_end last after) (range_end end later) version fit given h k =
    (one_range r sets sizes version fit decoder (rows_before r sets before) planes others last end after later h k).1
one_place r sets sizes content (Codes place) before planes others (rice_end rest after) (rice_end tail later) version fit given h k =
    (one_codes r sets sizes version fit (bits_of (drop place content)) (codes_before r sets before) (values_before r sets before given) planes others rest tail after
    later h k).1
one_place r sets sizes content (Codes place) before planes others (range_end last after) end version fit given h k = absurd h
one_place r sets sizes content (Codes place) before planes others (rice_end rest after) (range_end end later) version fit given h k = absurd k
one_place r sets sizes content (Samples decoder) before planes others (rice_end rest after) end version fit given h k = absurd h
one_place r sets sizes content (Samples decoder) before planes others (range_end last after) (rice_end tail later) version fit given h k = absurd k

pub same_states : (r : RecordingValue) (end last : SamplesEnd) → AreSameEnds r end last → AreSameStates r (states_at end) (states_at last)
same_states r (range_end last after) (range_end end later) same = same.1
same_states r (rice_end rest after) (rice_end tail later) same = same.1
same_states r (range_end last after) (rice_end tail later) same = absurd same
same_states r (rice_end rest after) (range_end end later) same = absurd same

-- ---- one header

pub one_header : (r : RecordingValue) (content : List ℕ) (first : Bool) (header other : SliceHeader) (start begin : SliceStart)
    → IsSliceHeaderOf r content first header start → IsSliceHeaderOf r content first other begin → ◌≡◌ {A = SliceHeader × SliceStart} (header, start) (other, begin)
one_header r content first header other start begin h k =
    same_ok {E = HeadFault} (header, start) (other, begin)
    (sym (slice_header_run r content first header start h) ∙ slice_header_run r content first other begin k)

pub no_header : (r : RecordingValue) (content : List ℕ) (first : Bool) (header : SliceHeader) (start : SliceStart) (fault : HeadFault)
    → slice_header_read r content first ≡ Err fault → IsSliceHeaderOf r content first header start → ⊥
no_header r content first header start fault h k =
    let apart : ◌≡◌ {A = Result (SliceHeader × SliceStart) HeadFault} (Err fault) (Ok (header, start)) = sym h ∙ slice_header_run r content first header start k in cc

-- ---- one picture

module _ (r : RecordingValue) (content : List ℕ) (first : Bool) (before : Option SliceStatesValue) (version : IsInVersion3 r) (header : SliceHeader) (start : SliceStart)
    (is : IsSliceHeaderOf r content first header start) where
  pub sizes_fit : AreSliceSizes r (slice_sizes r header)
  sizes_fit = slice_sizes_fit r header version (header_within r content first header start version is)

  pub few_planes : (sizes : List PlaneSize) (planes : List (List ℕ)) (end : SamplesEnd) → AreSliceSizes r sizes
      → AreCoded r header.tables sizes content start before planes end → r.is_rgb ≡ true → length planes ≤ 4
  few_planes sizes planes end fit h rgb = ((of_recording r sizes planes fit (coded_sizes r header.tables sizes content start before planes end h)).three rgb).most

  module _ (picture : SlicePictureValue) (k : IsSlicePicture r content first before picture) where
    pub pair_is : ◌≡◌ {A = SliceHeader × SliceStart} (picture.header, k.start) (header, start)
    pair_is = one_header r content first picture.header header k.start start k.is_header is

    pub coded_here : AreCoded r header.tables (slice_sizes r header) content start before k.coded k.end
    coded_here = subst (λ z. AreCoded r z.0.tables (slice_sizes r z.0) content z.1 before k.coded k.end) pair_is k.are_coded

    pub ends_here : EndsWith start k.end picture.spare_bits picture.is_clean
    ends_here = subst (λ z. EndsWith z.1 k.end picture.spare_bits picture.is_clean) pair_is k.ends

    pub fit_here : FitSlice r header.tables (states_at k.end)
    fit_here = subst (FitSlice r header.tables) k.states (subst (λ z. FitSlice r z.0.tables picture.states) pair_is k.fit)

pub one_slice_picture : OneSlicePicture
one_slice_picture r content first before picture other version given h k =
    let sizes = sizes_fit r content first before version picture.header h.start h.is_header in
    let there = coded_here r content first before version picture.header h.start h.is_header other k in
    let coded = one_coded r picture.header.tables (slice_sizes r picture.header) content h.start before h.coded k.coded h.end k.end version sizes (given picture.header h.start h.is_header) h.are_coded there in
    let end = one_end r picture.header.tables (slice_sizes r picture.header) content h.start before h.coded k.coded h.end k.end version sizes (given picture.header h.start h.is_header) h.are_coded there
    (subst (FitSlice r picture.header.tables) h.states h.fit) (fit_here r content first before version picture.header h.start h.is_header other k) in
    let ending = one_ending r h.start h.end k.end picture.spare_bits other.spare_bits picture.is_clean other.is_clean end h.ends
    (ends_here r content first before version picture.header h.start h.is_header other k) in
    record {
      header = sym (ap (λ z. z.0) (pair_is r content first before version picture.header h.start h.is_header other k));
      planes =
          one_planes r h.coded picture.planes other.planes
          (few_planes r content first before version picture.header h.start h.is_header (slice_sizes r picture.header) h.coded h.end sizes h.are_coded)
          h.planes (subst (λ l. ArePicturePlanes r l other.planes) (sym coded) k.planes);
      spare_bits = ending.0;
      is_clean = ending.1;
      states =
          subst (λ s. AreSameStates r s other.states) (sym h.states)
          (subst (λ s. AreSameStates r (states_at h.end) s) (sym k.states) (same_states r h.end k.end end));
    }
