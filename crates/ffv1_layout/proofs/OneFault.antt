-- A payload that is not laid out has one first fault.
use Rattle.std.proofs.Common.{◌≡◌, ◌==◌, ℕ, ◌<◌, Bool, List, length, refl, ap, subst, ◌∙◌, Err, arith, inl, inr}
use Rattle.std.specs.Prelude.{◌≢◌, Result}
use Rattle.std.proofs.lemmas.Bool.{cases_order}
use Rattle.ffv1_range.specs.Setup.{RecordingValue}
use Rattle.ffv1_range.specs.declared.head.SliceHeader.{SliceHeader}
use Rattle.ffv1_range.specs.declared.head.HeadFault.{HeadFault}
use Rattle.ffv1_layout.specs.Cuts.{AreSlicesOf}
use Rattle.ffv1_layout.specs.Layout.{HasNoSliceHeader, HaveHeaders, HasTile, header_at, listed_slice, SharesTile, AreApart, IsInSlice, IsFirstLayoutFault}
use Rattle.ffv1_layout.specs.declared.fault.LayoutFault.{LayoutFault}
use Rattle.ffv1_layout.specs.declared.fault.LayoutFault.TheVariants.{Chain, Slice, Overlap, Uncovered, Memory}
use Rattle.ffv1_layout.proofs.OneLayout.{one_slices, one_headers, has_no_fault}
use Rattle.ffv1_slice.specs.declared.slice.LinkFault.{LinkFault}
use Rattle.ffv1_slice.specs.declared.slice.LinkFault.TheVariants.{Parity, Head}

one_error : {A : Type 0} (read : Result A HeadFault) (fault other : HeadFault) → read ≡ Err fault → read ≡ Err other → fault ≡ other
one_error read fault other a b = cc

one_cause : (r : RecordingValue) (slice : List ℕ) (first : Bool) (cause other : LinkFault) → HasNoSliceHeader r slice first cause → HasNoSliceHeader r slice first other
    → cause ≡ other
one_cause r slice first Parity Parity a b = refl
one_cause r slice first Parity (Head fault) a b = absurd (a b.0)
one_cause r slice first (Head fault) Parity a b = absurd (b a.0)
one_cause r slice first (Head fault) (Head other) a b = ap Head (one_error _ fault other a.1 b.1)

-- ---- faults by the same slices

module _ (r : RecordingValue) (slices : List (List ℕ)) where
  -- a slice that has a header has no fault
  no_cause : (headers : List SliceHeader) (count place : ℕ) (cause : LinkFault) → HaveHeaders r slices headers count → place < count
      → HasNoSliceHeader r (listed_slice slices place) (place == 0) cause → ⊥
  no_cause headers count place cause have less none = has_no_fault r (listed_slice slices place) (place == 0) (header_at headers place) cause (have place less) none

  -- a slice that shares a tile with one before it is not apart
  not_apart : (headers more : List SliceHeader) (count place : ℕ) → HaveHeaders r slices headers (length slices) → HaveHeaders r slices more (length slices)
      → AreApart r.setup.across more count → place < count → place < length slices
      → (other : ℕ) × (other < place) × SharesTile r.setup.across (header_at headers other) (header_at headers place) → ⊥
  not_apart headers more count place have others apart less inside shared =
      let same : (k : ℕ) → k < length slices → header_at headers k ≡ header_at more k = one_headers r slices headers more (length slices) have others in
      apart place shared.0 less shared.1
      (subst (λ h. SharesTile r.setup.across h (header_at more place)) (same shared.0 (omega (arith, shared.1, inside)))
      (subst (λ h. SharesTile r.setup.across (header_at headers shared.0) h) (same place inside) shared.2))

  -- a tile is in a slice by any headers
  in_slice : (headers more : List SliceHeader) (tile : ℕ) → HaveHeaders r slices headers (length slices) → HaveHeaders r slices more (length slices)
      → IsInSlice r.setup.across headers (length slices) tile → IsInSlice r.setup.across more (length slices) tile
  in_slice headers more tile have others is =
      (is.0, is.1, subst (λ h. HasTile r.setup.across h tile) (one_headers r slices headers more (length slices) have others is.0 is.1) is.2)

-- What a fault says of the slices of a payload.
abbrev FaultOf : RecordingValue → List (List ℕ) → LayoutFault → Type 0
FaultOf r slices Chain = ⊥
FaultOf r slices (Slice place cause) =
    (headers : List SliceHeader) × (place < length slices) × HaveHeaders r slices headers place × HasNoSliceHeader r (listed_slice slices place) (place == 0) cause
FaultOf r slices (Overlap place) =
    (headers : List SliceHeader) × (place < length slices) × HaveHeaders r slices headers (length slices) × AreApart r.setup.across headers place
    × ((other : ℕ) × (other < place) × SharesTile r.setup.across (header_at headers other) (header_at headers place))
FaultOf r slices (Uncovered tile) =
    (headers : List SliceHeader) × HaveHeaders r slices headers (length slices) × AreApart r.setup.across headers (length slices)
    × ¬ IsInSlice r.setup.across headers (length slices) tile × ((lesser : ℕ) → lesser < tile → IsInSlice r.setup.across headers (length slices) lesser)
FaultOf r slices Memory = ⊥

module _ (r : RecordingValue) (slices : List (List ℕ)) where
  one_slice_fault : (place other : ℕ) (cause more : LinkFault) → FaultOf r slices (Slice place cause) → FaultOf r slices (Slice other more)
      → ◌≡◌ {A = LayoutFault} (Slice place cause) (Slice other more)
  one_slice_fault place other cause more a b = elim (cases_order place other) [
    | inl same ↦
        ap (λ p. Slice p cause) same
        ∙ ap (Slice other) (one_cause r (listed_slice slices other) (other == 0) cause more
        (subst (λ p. HasNoSliceHeader r (listed_slice slices p) (p == 0) cause) same a.3) b.3)
    | inr (inl less) ↦ absurd (no_cause r slices b.0 other place cause b.2 less a.3)
    | inr (inr less) ↦ absurd (no_cause r slices a.0 place other more a.2 less b.3)
  ]

  one_overlap : (place other : ℕ) → FaultOf r slices (Overlap place) → FaultOf r slices (Overlap other) → ◌≡◌ {A = LayoutFault} (Overlap place) (Overlap other)
  one_overlap place other a b = elim (cases_order place other) [
    | inl same ↦ ap Overlap same
    | inr (inl less) ↦ absurd (not_apart r slices a.0 b.0 other place a.2 b.2 b.3 less a.1 a.4)
    | inr (inr less) ↦ absurd (not_apart r slices b.0 a.0 place other b.2 a.2 a.3 less b.1 b.4)
  ]

  one_uncovered : (tile other : ℕ) → FaultOf r slices (Uncovered tile) → FaultOf r slices (Uncovered other)
      → ◌≡◌ {A = LayoutFault} (Uncovered tile) (Uncovered other)
  one_uncovered tile other a b = elim (cases_order tile other) [
    | inl same ↦ ap Uncovered same
    | inr (inl less) ↦ absurd (a.3 (in_slice r slices b.0 a.0 tile b.1 a.1 (b.4 tile less)))
    | inr (inr less) ↦ absurd (b.3 (in_slice r slices a.0 b.0 other a.1 b.1 (a.4 other less)))
  ]

  one_of_slices : (fault other : LayoutFault) → FaultOf r slices fault → FaultOf r slices other → fault ≡ other
  one_of_slices Chain other a b = absurd a
  one_of_slices Memory other a b = absurd a
  one_of_slices (Slice place cause) Chain a b = absurd b
  one_of_slices (Slice place cause) (Slice other more) a b = one_slice_fault place other cause more a b
  one_of_slices (Slice place cause) (Overlap other) a b = absurd (no_cause r slices b.0 (length slices) place cause b.2 a.1 a.3)
  one_of_slices (Slice place cause) (Uncovered tile) a b = absurd (no_cause r slices b.0 (length slices) place cause b.1 a.1 a.3)
  one_of_slices (Slice place cause) Memory a b = absurd b
  one_of_slices (Overlap place) Chain a b = absurd b
  one_of_slices (Overlap place) (Slice other more) a b = absurd (no_cause r slices a.0 (length slices) other more a.2 b.1 b.3)
  one_of_slices (Overlap place) (Overlap other) a b = one_overlap place other a b
  one_of_slices (Overlap place) (Uncovered tile) a b = absurd (not_apart r slices a.0 b.0 (length slices) place a.2 b.1 b.2 a.1 a.1 a.4)
  one_of_slices (Overlap place) Memory a b = absurd b
  one_of_slices (Uncovered tile) Chain a b = absurd b
  one_of_slices (Uncovered tile) (Slice other more) a b = absurd (no_cause r slices a.0 (length slices) other more a.1 b.1 b.3)
  one_of_slices (Uncovered tile) (Overlap other) a b = absurd (not_apart r slices b.0 a.0 (length slices) other b.2 a.1 a.2 b.1 b.1 b.4)
  one_of_slices (Uncovered tile) (Uncovered other) a b = one_uncovered tile other a b
  one_of_slices (Uncovered tile) Memory a b = absurd b

-- ---- faults of a payload

module _ (r : RecordingValue) (payload : List ℕ) where
  abbrev OfSlices : LayoutFault → Type 0
  OfSlices fault = (slices : List (List ℕ)) × AreSlicesOf r payload slices × FaultOf r slices fault

  -- each fault but of the chain is of slices
  of_slices : (fault : LayoutFault) → IsFirstLayoutFault r payload fault → (fault ≢ Chain) → (fault ≢ Memory) → OfSlices fault
  of_slices Chain is chain memory = absurd (chain refl)
  of_slices (Slice place cause) is chain memory = (is.0, is.2, (is.1, is.3, is.4, is.5))
  of_slices (Overlap place) is chain memory = (is.0, is.2, (is.1, is.3, is.4, is.5, is.6))
  of_slices (Uncovered tile) is chain memory = (is.0, is.2, (is.1, is.4, is.5, is.6, is.7))
  of_slices Memory is chain memory = absurd (memory refl)

  both_of_slices : (fault other : LayoutFault) → OfSlices fault → OfSlices other → fault ≡ other
  both_of_slices fault other a b =
      one_of_slices r a.0 fault other a.2 (subst (λ slices. FaultOf r slices other) (one_slices r payload b.0 a.0 b.1 a.1) b.2)

  pub one_fault : (fault other : LayoutFault) → fault ≢ Memory → other ≢ Memory → IsFirstLayoutFault r payload fault → IsFirstLayoutFault r payload other
      → fault ≡ other
  one_fault Chain Chain f g a b = refl
  one_fault Chain (Slice place cause) f g a b = absurd (a b.0 b.2)
  one_fault Chain (Overlap place) f g a b = absurd (a b.0 b.2)
  one_fault Chain (Uncovered tile) f g a b = absurd (a b.0 b.2)
  one_fault Chain Memory f g a b = absurd (g refl)
  one_fault (Slice place cause) Chain f g a b = absurd (b a.0 a.2)
  one_fault (Overlap place) Chain f g a b = absurd (b a.0 a.2)
  one_fault (Uncovered tile) Chain f g a b = absurd (b a.0 a.2)
  one_fault Memory other f g a b = absurd (f refl)
  one_fault fault other f g a b = both_of_slices fault other (of_slices fault a (λ e. absurd cc) f) (of_slices other b (λ e. absurd cc) g)
