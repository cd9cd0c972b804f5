-- What is voted or repaired of copies of an original.
use Rattle.ffv1_splice.proofs.Common.{◌≡◌, ℕ, List, sym, ◌∙◌, subst, slice_range, IsRepair, IsVote, original_is_repaired, original_is_voted, versions_at, StandsAs, SplicedValue, IsSpliceOf, VotedIsOriginal, RepairedIsOriginal, Standing, Settled, Voted, Repaired, Undivided, Place}
use Rattle.ffv1_splice.proofs.StandingPlaces.{between_versions, IsPlaceOf, place_of}
use Rattle.ffv1_splice.proofs.StandingPlaces.IsPlaceOf.{above, between, undivided, below}

-- Places that stand only in the hole, where one slice alone can be made of the versions: it is what is made of them.
module _ (IsMade : List (List ℕ) → List ℕ → Type 0) (made : ℕ → Standing) (unsettled : (count : ℕ) → made count ≡ Settled → ⊥)
    (is_divided : (count : ℕ) → made count ≡ Undivided → ⊥)
    (one : (copies : List (List ℕ)) (start end : ℕ) (slice bytes : List ℕ) (count : ℕ) → IsMade (versions_at copies start end) slice
    → StandsAs copies start end bytes (made count) → bytes ≡ slice)
    (original : List ℕ) (copies : List (List ℕ)) (spliced : SplicedValue) (is : IsSpliceOf copies spliced) where
  made_link : (place : Place) (count : ℕ) → IsPlaceOf copies spliced is place
      → IsMade (versions_at copies place.start place.end) (slice_range original place.start place.end) → place.standing ≡ made count
      → slice_range spliced.payload place.start place.end ≡ slice_range original place.start place.end
  made_link place count (above settled) among as_made = absurd (unsettled count (sym as_made ∙ settled.standing))
  made_link place count (between h) among as_made =
      let slice : List ℕ = slice_range original place.start place.end in
      let bytes : List ℕ = slice_range spliced.payload place.start place.end in
      cc (one (versions_at copies h.from h.to) h.start h.end slice bytes count (subst (λ vs. IsMade vs slice) (sym (between_versions copies spliced.payload place h)) among) (subst (StandsAs (versions_at copies h.from h.to) h.start h.end bytes) as_made h.stands))
  made_link place count (undivided stands) among as_made = absurd (is_divided count (sym as_made ∙ stands))
  made_link place count (below settled) among as_made = absurd (unsettled count (sym as_made ∙ settled.standing))

pub voted_is_original : VotedIsOriginal
voted_is_original original copies spliced place count is there =
    made_link IsVote Voted (λ count is. absurd (cc)) (λ count is. absurd (cc))
    (λ copies start end slice bytes count among h. original_is_voted slice (versions_at copies start end) bytes count among h.vote)
    original copies spliced is place count (place_of copies spliced is place there)

pub repaired_is_original : RepairedIsOriginal
repaired_is_original original copies spliced place count is there =
    made_link IsRepair Repaired (λ count is. absurd (cc)) (λ count is. absurd (cc))
    (λ copies start end slice bytes count among h. original_is_repaired slice (versions_at copies start end) bytes count among h.repair)
    original copies spliced is place count (place_of copies spliced is place there)
