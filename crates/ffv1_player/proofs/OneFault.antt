-- A payload that gives no samples has one first fault.
use Rattle.std.proofs.Common.{◌≡◌, ◌==◌, ℕ, ◌<◌, false, List, length, refl, sym, ap, ◌∙◌, subst, inl, inr, arith}
use Rattle.std.specs.Prelude.{◌≢◌, ◌⊎◌, Option, None, Some}
use Rattle.std.proofs.lemmas.Bool.{cases_order}
use Rattle.ffv1_range.specs.Setup.{RecordingValue, IsInVersion3}
use Rattle.ffv1_range.specs.declared.head.SliceHeader.{SliceHeader}
use Rattle.ffv1_layout.specs.Cuts.{slice_content}
use Rattle.ffv1_layout.specs.Layout.{listed_slice, IsLaidOut, IsFirstLayoutFault}
use Rattle.ffv1_layout.specs.declared.fault.LayoutFault.{LayoutFault}
use Rattle.ffv1_layout.specs.declared.fault.LayoutFault.TheVariants as layout_faults
use Rattle.ffv1_layout.proofs.OneLayout.{one_layout, no_fault}
use Rattle.ffv1_layout.proofs.OneFault as layout
use Rattle.ffv1_samples.specs.Slices.{SlicePictureValue}
use Rattle.ffv1_samples.specs.Faults.{IsSliceFault}
use Rattle.ffv1_samples.proofs.Refusals.{refused_for_one}
use Rattle.ffv1_player.specs.Frames.{LeftValue, is_key, BeginsWith, states_left_at, HavePictures}
use Rattle.ffv1_player.specs.Faults.{fault_of_layout, slice_fault, IsFirstStop, IsFirstSamplesFault}
use Rattle.ffv1_player.specs.Fitting.{FitLast}
use Rattle.ffv1_player.specs.declared.fault.ContentFault.{ContentFault}
use Rattle.ffv1_player.specs.declared.fault.ContentFault.TheVariants as content_faults
use Rattle.ffv1_player.specs.declared.fault.SamplesFault.{SamplesFault}
use Rattle.ffv1_player.specs.declared.fault.SamplesFault.TheVariants.{Chain, Slice, Overlap, Uncovered, Previous, Content, Memory}
use Rattle.ffv1_player.proofs.OneFrame.{before_by, content_fits, not_stopped, not_refused}

-- ---- stops

one_stop_after : (r : RecordingValue) (headers : List SliceHeader) (before : List LeftValue) (place other : ℕ) → IsFirstStop r headers (Some before) place
    → IsFirstStop r headers (Some before) other → place < other → ⊥
one_stop_after r headers before place other a b less = elim a.1 [
  | inl unequal ↦ unequal.1 (b.0 place less)
  | inr more ↦ elim b.1 [ inl unequal ↦ absurd (omega (arith, more.0, unequal.0, less)) | inr longer ↦ absurd (omega (arith, more.0, longer.0, less)) ]
]

one_stop : (r : RecordingValue) (headers : List SliceHeader) (last : Option (List LeftValue)) (place other : ℕ) → IsFirstStop r headers last place
    → IsFirstStop r headers last other → place ≡ other
one_stop r headers None place other a b = a ∙ sym b
one_stop r headers (Some before) place other a b = elim (cases_order place other) [
  | inl same ↦ same
  | inr (inl less) ↦ absurd (one_stop_after r headers before place other a b less)
  | inr (inr less) ↦ absurd (one_stop_after r headers before other place b a less)
]

-- ---- contents

one_content : (cause other : ContentFault) → slice_fault cause ≡ slice_fault other → cause ≡ other
one_content (content_faults.Code fault plane y x) (content_faults.Code level p v u) same = cc
one_content (content_faults.Code fault plane y x) content_faults.End same = absurd cc
one_content content_faults.End (content_faults.Code level p v u) same = absurd cc
one_content content_faults.End content_faults.End same = refl

-- What a fault after the layout says of the slices and headers.
abbrev FaultOf : RecordingValue → Option (List LeftValue) → List (List ℕ) → List SliceHeader → SamplesFault → Type 0
FaultOf r last slices headers (Previous place) = (is_key headers ≡ false) × IsFirstStop r headers last place
FaultOf r last slices headers (Content place cause) =
    (before : List LeftValue) × BeginsWith r headers last before × ((pictures : List SlicePictureValue) × HavePictures r slices before pictures place) × (place < length slices)
    × IsSliceFault r (slice_content r (listed_slice slices place)) (place == 0) (states_left_at before place) (slice_fault cause)
FaultOf r last slices headers fault = ⊥

module _ (r : RecordingValue) (version : IsInVersion3 r) (last : Option (List LeftValue)) (fit : FitLast r last) (payload : List ℕ) where
  module _ (slices : List (List ℕ)) (headers : List SliceHeader) (laid_out : IsLaidOut r payload slices headers) where
    one_content_fault : (place other : ℕ) (cause more : ContentFault) → FaultOf r last slices headers (Content place cause)
        → FaultOf r last slices headers (Content other more) → ◌≡◌ {A = SamplesFault} (Content place cause) (Content other more)
    one_content_fault place other cause more a b =
        let same_before : b.0 ≡ a.0 = before_by r headers last b.0 a.0 (is_key headers) b.1 a.1 in
        let have = subst (λ before. HavePictures r slices before b.2.0 other) same_before b.2.1 in
        let refused = subst (λ before. IsSliceFault r (slice_content r (listed_slice slices other)) (other == 0) (states_left_at before other) (slice_fault more)) same_before b.4 in
        elim (cases_order place other) [
          | inl same ↦
              let here = subst (λ p. IsSliceFault r (slice_content r (listed_slice slices p)) (p == 0) (states_left_at a.0 p) (slice_fault cause)) same a.4 in
              ap (λ p. Content p cause) same
              ∙ ap (Content other) (one_content cause more
              (refused_for_one r (slice_content r (listed_slice slices other)) (other == 0) (states_left_at a.0 other) (slice_fault cause) (slice_fault more) version
              (content_fits r version last fit payload slices headers laid_out a.0 a.1 other b.3) here refused))
          | inr (inl less) ↦ absurd (not_refused r version last fit payload slices headers laid_out a.0 a.1 b.2.0 other place have less a.3 (slice_fault cause) a.4)
          | inr (inr less) ↦ absurd (not_refused r version last fit payload slices headers laid_out a.0 a.1 a.2.0 place other a.2.1 less b.3 (slice_fault more) refused)
        ]

    one_later : (fault other : SamplesFault) → FaultOf r last slices headers fault → FaultOf r last slices headers other → fault ≡ other
    one_later (Previous place) (Previous other) a b = ap Previous (one_stop r headers last place other a.1 b.1)
    one_later (Previous place) (Content other more) a b = absurd (not_stopped r version last fit payload slices headers laid_out b.0 b.1 place a.0 a.1)
    one_later (Content place cause) (Previous other) a b = absurd (not_stopped r version last fit payload slices headers laid_out a.0 a.1 other b.0 b.1)
    one_later (Content place cause) (Content other more) a b = one_content_fault place other cause more a b
    one_later (Previous place) other a b = absurd b
    one_later (Content place cause) other a b = absurd b
    one_later fault other a b = absurd a

  -- ---- faults of a payload

  abbrev OfLayout : SamplesFault → Type 0
  OfLayout fault = (cause : LayoutFault) × (cause ≢ layout_faults.Memory) × (fault ≡ fault_of_layout cause) × IsFirstLayoutFault r payload cause

  abbrev AfterLayout : SamplesFault → Type 0
  AfterLayout fault = (slices : List (List ℕ)) × (headers : List SliceHeader) × IsLaidOut r payload slices headers × FaultOf r last slices headers fault

  each_fault : (fault : SamplesFault) → fault ≢ Memory → IsFirstSamplesFault r last payload fault → OfLayout fault ⊎ AfterLayout fault
  each_fault Chain some is = inl (layout_faults.Chain, (λ e. absurd cc), refl, is)
  each_fault (Slice place cause) some is = inl (layout_faults.Slice place cause, (λ e. absurd cc), refl, is)
  each_fault (Overlap place) some is = inl (layout_faults.Overlap place, (λ e. absurd cc), refl, is)
  each_fault (Uncovered tile) some is = inl (layout_faults.Uncovered tile, (λ e. absurd cc), refl, is)
  each_fault (Previous place) some is = inr (is.0, is.1, is.2, (is.3, is.4))
  each_fault (Content place cause) some is = inr (is.0, is.1, is.2, (is.3.0, is.3.1, is.3.2, is.3.3, is.3.4))
  each_fault Memory some is = absurd (some refl)

  both_of_layout : (fault other : SamplesFault) → OfLayout fault → OfLayout other → fault ≡ other
  both_of_layout fault other a b = a.2 ∙ ap fault_of_layout (layout.one_fault r payload a.0 b.0 a.1 b.1 a.3 b.3) ∙ sym b.2

  not_both : (fault other : SamplesFault) → OfLayout fault → AfterLayout other → ⊥
  not_both fault other a b = a.1 (no_fault r payload b.0 b.1 b.2 a.0 a.3)

  both_after_layout : (fault other : SamplesFault) → AfterLayout fault → AfterLayout other → fault ≡ other
  both_after_layout fault other a b =
      let e = one_layout r payload b.0 a.0 b.1 a.1 b.2 a.2 in
      one_later a.0 a.1 a.2 fault other a.3
      (subst (λ headers. FaultOf r last a.0 headers other) e.1 (subst (λ slices. FaultOf r last slices b.1 other) e.0 b.3))

  pub one_fault : (fault other : SamplesFault) → fault ≢ Memory → other ≢ Memory → IsFirstSamplesFault r last payload fault → IsFirstSamplesFault r last payload other
      → fault ≡ other
  one_fault fault other some more a b = elim (each_fault fault some a) [
    | inl early ↦ elim (each_fault other more b) [
      | inl also ↦ both_of_layout fault other early also
      | inr late ↦ absurd (not_both fault other early late)
    ]
    | inr late ↦ elim (each_fault other more b) [
      | inl early ↦ absurd (not_both other fault early late)
      | inr also ↦ both_after_layout fault other late also
    ]
  ]
