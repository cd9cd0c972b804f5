-- What the slices of a frame begin with, and what they leave.
use Rattle.std.proofs.Common.{◌≡◌, ◌⊎◌, ℕ, ◌<◌, ◌≤◌, Bool, true, false, List, [], length, map, sym, ap, ◌∙◌, subst, inl, inr, arith}
use Rattle.std.specs.Prelude.{◌==◌, Option, Some, MatchBool, slice_index_or}
use Rattle.std.specs.Option.{option_map}
use Rattle.std.proofs.lemmas.List.{length-map}
use Rattle.std.proofs.lemmas.Option.{none-some, same_Some, slice_get-map, slice_get_cases}
use Rattle.ffv1_range.specs.Setup.{RecordingValue, set_contexts}
use Rattle.ffv1_range.specs.SliceHeader.{IsSliceHeaderOf}
use Rattle.ffv1_range.specs.declared.head.SliceHeader.{SliceHeader}
use Rattle.ffv1_layout.specs.Cuts.{FitFooters, slice_content}
use Rattle.ffv1_layout.specs.Layout.{header_at, listed_slice, headers_of, contents_of, IsLayoutOf}
use Rattle.ffv1_layout.specs.declared.layout.PlacedSlice.{PlacedSlice}
use Rattle.ffv1_samples.specs.States.{SliceStatesValue, range_states, rice_states, FitSlice, FitSliceBefore}
use Rattle.ffv1_samples.specs.Slices.{SlicePictureValue, IsSlicePicture}
use Rattle.ffv1_samples.specs.Faults.{IsSliceFault}
use Rattle.ffv1_player.specs.Frames.{LeftValue, left_by, HaveSameTables, FrameGoesOn, is_key, BeginsWith, states_left_at, HavePictures}
use Rattle.ffv1_player.specs.Faults.{slice_fault, IsFirstSamplesFault}
use Rattle.ffv1_player.specs.Inner.Decoding.{ArePictures, CanBegin, IsContentFault}
use Rattle.ffv1_player.specs.Fitting.{FitLeft, FitLast}
use Rattle.ffv1_player.specs.Inner.Playing.{IsPreviousStop}
use Rattle.ffv1_player.specs.declared.fault.SamplesFault.{SamplesFault}
use Rattle.ffv1_player.specs.declared.fault.SamplesFault.TheVariants.{Memory}

-- ---- what slices begin with

-- states that fit a header fit another with the same table sets
fit_same : (r : RecordingValue) (header earlier : SliceHeader) (states : SliceStatesValue) → HaveSameTables r header earlier
    → FitSlice r earlier.tables states → FitSlice r header.tables states
fit_same r header earlier (range_states groups) same fit =
    (fit.0, λ p less. fit.1 p less ∙ ap (set_contexts r.setup) (sym (same p less)))
fit_same r header earlier (rice_states groups) same fit =
    (fit.0, λ p less. fit.1 p less ∙ ap (set_contexts r.setup) (sym (same p less)), fit.2)

-- the slices of a frame that is no keyframe have states that fit
going_on : (r : RecordingValue) (headers : List SliceHeader) (before : List LeftValue) (place : ℕ) → place < length headers → FitLeft r before
    → FrameGoesOn r headers before → FitSliceBefore r (header_at headers place).tables (states_left_at before place)
going_on r headers before place less fit goes =
    let equal = goes.1 place less in
    let left = equal.0 in
    subst (λ o. FitSliceBefore r (header_at headers place).tables (option_map (λ left. left.states) o)) (sym equal.1)
    (fit_same r (header_at headers place) left.header left.states equal.2.tables (fit place left equal.1))

fit_by : (r : RecordingValue) (headers : List SliceHeader) (last : Option (List LeftValue)) (before : List LeftValue) (place : ℕ) (key : Bool)
    → place < length headers → FitLast r last → MatchBool key (before ≡ []) ((last ≡ Some before) × FrameGoesOn r headers before)
    → FitSliceBefore r (header_at headers place).tables (states_left_at before place)
fit_by r headers last before place true less fit begins =
    subst (λ l. FitSliceBefore r (header_at headers place).tables (states_left_at l place)) (sym begins) tt
fit_by r headers last before place false less fit begins = going_on r headers before place less (subst (FitLast r) begins.0 fit) begins.1

-- the states that each slice begins with fit its header
pub fit_before : (r : RecordingValue) (headers : List SliceHeader) (last : Option (List LeftValue)) (before : List LeftValue) (place : ℕ)
    → place < length headers → FitLast r last → BeginsWith r headers last before
    → FitSliceBefore r (header_at headers place).tables (states_left_at before place)
fit_before r headers last before place less fit begins = fit_by r headers last before place (is_key headers) less fit begins

-- ---- the contents of slices

module _ (r : RecordingValue) (payload : List ℕ) (placed : List PlacedSlice) (layout : IsLayoutOf r payload placed) where
  abbrev contents : List (List ℕ)
  contents = contents_of placed

  pub count_of_contents : length contents ≡ length layout.slices
  count_of_contents =
      length-map placed (λ slice. slice.content.now) ∙ sym (length-map placed (λ slice. slice.header)) ∙ layout.laid_out.count

  content_is : (place : ℕ) → place < length contents → listed_slice contents place ≡ slice_content r (listed_slice layout.slices place)
  content_is place less = layout.contents place (omega (arith, less, count_of_contents))

  pub can_begin : (last : Option (List LeftValue)) (before : List LeftValue) → FitFooters contents → FitLast r last
      → BeginsWith r (headers_of placed) last before → CanBegin r contents (headers_of placed) before
  can_begin last before short fit begins = record {
    short = short;
    begin = λ place less.
        let has = layout.laid_out.each place (omega (arith, less, count_of_contents)) in (
          has.start,
          subst (λ content. IsSliceHeaderOf r content (place == 0) (header_at (headers_of placed) place) has.start) (sym (content_is place less)) has.is_header,
        );
    fit = λ place less.
        fit_before r (headers_of placed) last before place (omega (arith, less, count_of_contents, layout.laid_out.count)) fit begins;
  }

  -- pictures of the contents are those of the slices
  pub have_pictures : (before : List LeftValue) (pictures : List SlicePictureValue) (count : ℕ) → count ≤ length contents
      → ArePictures r contents before pictures count → HavePictures r layout.slices before pictures count
  have_pictures before pictures count few have = (
    have.long,
    λ place d less.
        subst (λ content. IsSlicePicture r content (place == 0) (states_left_at before place) (slice_index_or pictures place d))
        (content_is place (omega (arith, less, few))) (have.each place d less),
  )

  -- ---- faults

  pub stopped : (last : Option (List LeftValue)) (fault : SamplesFault) → IsPreviousStop r (headers_of placed) last fault → IsFirstSamplesFault r last payload fault
  stopped last fault stop =
      subst (IsFirstSamplesFault r last payload) (sym stop.is) (layout.slices, headers_of placed, layout.laid_out, stop.no_key, stop.first)

  pub undecoded : (last : Option (List LeftValue)) (before : List LeftValue) (fault : SamplesFault) → BeginsWith r (headers_of placed) last before
      → (fault ≡ Memory) ⊎ IsContentFault r contents before fault → IsFirstSamplesFault r last payload fault
  undecoded last before fault begins (inl memory) = subst (IsFirstSamplesFault r last payload) (sym memory) tt
  undecoded last before fault begins (inr stuck) =
      subst (IsFirstSamplesFault r last payload) (sym stuck.is) (
        layout.slices,
        headers_of placed,
        layout.laid_out,
        (
          before,
          begins,
          (stuck.pictures, have_pictures before stuck.pictures stuck.place (omega (arith, stuck.inside)) stuck.have),
          omega (arith, stuck.inside, count_of_contents),
          subst (λ content. IsSliceFault r content (stuck.place == 0) (states_left_at before stuck.place) (slice_fault stuck.cause)) (content_is stuck.place stuck.inside)
              stuck.refused,
        ),
      )

-- ---- what slices leave

pub fit_left : (r : RecordingValue) (contents : List (List ℕ)) (before : List LeftValue) (pictures : List SlicePictureValue) (count : ℕ)
    → ArePictures r contents before pictures count → FitLeft r (map left_by pictures)
fit_left r contents before pictures count have place slice at = elim (slice_get_cases pictures place).1 [
  | inl some ↦
      let d : SlicePictureValue = some.0 in
      let same : left_by d ≡ slice =
      same_Some (left_by d) slice (sym (slice_get-map left_by pictures place ∙ ap (option_map left_by) some.2) ∙ at) in
      let picture = have.each place d (omega (arith, some.1, have.long)) in
      subst (λ (s : LeftValue). FitSlice r s.header.tables s.states) same
      (subst (λ (s : SlicePictureValue). FitSlice r s.header.tables s.states) some.3 picture.fit)
  | inr none ↦
      absurd (none-some slice (sym (slice_get-map left_by pictures place ∙ ap (option_map left_by) none.1) ∙ at))
]
