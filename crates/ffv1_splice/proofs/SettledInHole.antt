-- Settled places of the hole, down from its top.
use Rattle.ffv1_splice.proofs.Common.{◌≡◌, ℕ, ◌+◌, ◌≤◌, List, [], ◌∷◌, ◌++◌, length, sym, ap, subst, arith, inl, inr, ◌⊎◌, All, slice_range, All-head, All-tail, IsEnd, IsLinkOf, LinkValue, before, versions_at, StandsAs, SplicedValue, LieFrom, IsSpliceOf, moved_by, AreConsistentWith, IsItsLink, IsClaimedAsIn, SettledInHoleIsOriginal, Settled, Place}
use Rattle.ffv1_splice.proofs.ClaimedPlaces.{claims_start}
use Rattle.ffv1_splice.proofs.Narrowed.{piece_out, claim_out}
use Rattle.ffv1_splice.proofs.OriginalLaws.{above_links}
use Rattle.ffv1_splice.proofs.PlaceLists.{All-right}
use Rattle.ffv1_splice.proofs.SplicePlaces.{hole_length}
use Rattle.ffv1_splice.proofs.StandingPlaces.{hole_within, hole_stands}
use Rattle.ffv1_splice.proofs.Walks.{stands_below}

module _ (original : List ℕ) (copies : List (List ℕ)) (spliced : SplicedValue) (is : IsSpliceOf copies spliced) (agree : AreConsistentWith original copies) where
  -- a place of the hole stands so
  record StandsInHole (place : Place) : Type 0 where
    within : is.start + place.end ≤ is.end
    stands : StandsAs (versions_at copies is.start is.end) place.start place.end
        (slice_range spliced.payload (is.start + place.start) (is.start + place.end)) place.standing

  -- one that is settled at an end of the original is its link
  its_link : (place : Place) → StandsInHole place → place.standing ≡ Settled → IsEnd original (is.start + place.end)
      → IsItsLink original spliced (moved_by is.start place)
  its_link place here settled is_end =
      let bytes : List ℕ = slice_range spliced.payload (is.start + place.start) (is.start + place.end) in
      let stands : StandsAs (versions_at copies is.start is.end) place.start place.end bytes Settled = grind (arith, versions_at) in
      let claim = agree (is.start + place.end) (record { start = is.start + place.start; bytes = bytes }) is_end
      (piece_out is.start is.end copies place.end (record { start = place.start; bytes = bytes }) here.within stands.there) in
      record { link = claim.0; bytes = ap (λ (piece : LinkValue). piece.bytes) claim.1 }

  end_here : (end : ℕ) (higher : List Place) (place : Place) (lower : List Place) (front : ℕ) → LieFrom end (higher ++ (place ∷ lower)) front
      → All StandsInHole (higher ++ (place ∷ lower)) → 8 ≤ end
  end_here end [] place lower front lie all = grind (arith, All-head, stands_below)
  end_here end (one ∷ higher) place lower front lie all = grind (arith, All-head, stands_below)

  -- down from an end of the original
  reached : (end : ℕ) (higher : List Place) (place : Place) (lower : List Place) (front : ℕ) → IsEnd original (is.start + end)
      → LieFrom end (higher ++ (place ∷ lower)) front → All StandsInHole (higher ++ (place ∷ lower))
      → All (λ one. (one.standing ≡ Settled) ⊎ IsClaimedAsIn original copies (is.start + one.end)) higher → IsEnd original (is.start + place.end)
  reached end [] place lower front is_end lie all claims = subst (λ n. IsEnd original (is.start + n)) (sym lie.0) is_end
  reached end (one ∷ higher) place lower front is_end lie all claims =
      let here = All-head StandsInHole one (higher ++ (place ∷ lower)) all in
      let rest = All-tail StandsInHole one (higher ++ (place ∷ lower)) all in
      let is_here : IsEnd original (is.start + one.end) = subst (λ n. IsEnd original (is.start + n)) (sym lie.0) is_end in
      let link : IsLinkOf original (is.start + one.start) (is.start + one.end) =
      elim (All-head (λ one. (one.standing ≡ Settled) ⊎ IsClaimedAsIn original copies (is.start + one.end)) one higher claims) [
        | inl settled ↦ (its_link one here settled is_here).link
        | inr as_in ↦ grind (arith, claims_start, versions_at, claim_out, end_here)
      ] in
      reached one.start higher place lower front (before link.is_end link.cut) lie.1 rest
      (All-tail (λ one. (one.standing ≡ Settled) ⊎ IsClaimedAsIn original copies (is.start + one.end)) one higher claims)

pub settled_in_hole_is_original : SettledInHoleIsOriginal
settled_in_hole_is_original original copies spliced higher place lower of agree is same claims settled =
    let all : All (StandsInHole original copies spliced is agree) is.hole.places =
    λ k d lt. record { within = hole_within copies spliced is k d lt; stands = hole_stands copies spliced is k d lt } in
    let here = subst (All (StandsInHole original copies spliced is agree)) same all in
    let top : IsEnd original (is.start + length is.hole.payload) =
    subst (IsEnd original) (sym (hole_length copies spliced is)) (above_links original copies spliced is of agree).is_end in
    its_link original copies spliced is agree place
    (All-head (StandsInHole original copies spliced is agree) place lower (All-right (StandsInHole original copies spliced is agree) higher (place ∷ lower) here)) settled
    (reached original copies spliced is agree (length is.hole.payload) higher place lower is.hole.front top
    (subst (λ places. LieFrom (length is.hole.payload) places is.hole.front) same is.divided.lie) here claims)
