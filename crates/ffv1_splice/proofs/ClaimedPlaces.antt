-- Places by the starts that are claimed at their ends.
use Rattle.ffv1_splice.proofs.Common.{◌≡◌, ℕ, zero, suc, ◌+◌, ◌-◌, ◌<◌, ◌≤◌, List, [], ◌∷◌, length, get_or, map, sym, ap, ◌∙◌, subst, arith, inl, inr, ◌⊎◌, All, Contains, slice_range, All-nil, All-cons, All-tail, All-contains, All-contains_itself, PassesParity, IsLinkOf, IsFramed, IsOnly, IsOfTwo, IsOfNone, IsAmongTried, IsClaimedStart, IsClaimedFrom, versions_at, sized, StandsAs, SplicedValue, LieFrom, RiseFrom, IsSettledDown, IsSpliceOf, moved_by, undivided_places, ClaimedAloneIsOriginal, SizedIsOriginal, Standing, Settled, Woven, Voted, Repaired, Disputed, Missing, Undivided, Place}
use Rattle.ffv1_splice.proofs.Narrowed.{versions_of_versions, claim_in, claim_out}
use Rattle.ffv1_splice.proofs.PlaceLists.{start_below}
use Rattle.ffv1_splice.proofs.PlaceSteps.{claim_below, unwoven_weave, two_not_only}
use Rattle.ffv1_splice.proofs.SplicePlaces.{all_places, above_upright, lower, lower_rise, lower_upright, start_within, hole_length, hole_upright}
use Rattle.ffv1_splice.proofs.StandingPlaces.{hole_within, hole_stands}
use Rattle.ffv1_splice.proofs.Walks.{front_below}
use Rattle.ffv1_splice.proofs.WovenLaws.{framed_link, slice_of_weave, woven_is_original}

-- ---- the start of a place is claimed, or no start is

pub claims_start : (copies : List (List ℕ)) (start end : ℕ) (bytes : List ℕ) (standing : Standing) → StandsAs copies start end bytes standing
    → IsClaimedStart copies end start ⊎ ((start ≡ 0) × IsOfNone (IsClaimedStart copies end))
claims_start copies start end bytes Settled h = grind arith
claims_start copies start end bytes (Woven count) (inl h) = inl h.claim.there
claims_start copies start end bytes (Woven count) (inr (inl h)) = inr (h.0, h.1.no_claim)
claims_start copies start end bytes (Woven count) (inr (inr h)) = inl h.claim
claims_start copies start end bytes (Voted count) h = inl (unwoven_weave copies start end h.unwoven).1.claim.there
claims_start copies start end bytes (Repaired count) h = inl h.missed.claim.there
claims_start copies start end bytes Disputed h = inl h.1.claim.there
claims_start copies start end bytes Missing h = inl h.1.claim.there
claims_start copies start end bytes Undivided h = absurd h

-- ---- places above the hole's start

-- places that lie down to a front begin at it or above it
starts_above : (end : ℕ) (places : List Place) (front : ℕ) → All (λ place. place.start ≤ place.end) places → LieFrom end places front
    → All (λ place. front ≤ place.start) places
starts_above end [] front up lie = All-nil (λ place. front ≤ place.start)
starts_above end (place ∷ places) front up lie =
    let rest = All-tail (λ place. place.start ≤ place.end) place places up in
    All-cons (λ place. front ≤ place.start) place places (front_below place.start places front rest lie.1) (starts_above place.start places front rest lie.1)

-- places that rise up to a top end at it or below it
ends_under : (start : ℕ) (places : List Place) (top : ℕ) → All (λ place. place.start < place.end) places → RiseFrom start places top
    → All (λ place. place.end ≤ top) places
ends_under start [] top up rise = All-nil (λ place. place.end ≤ top)
ends_under start (place ∷ places) top up rise =
    let rest = All-tail (λ place. place.start < place.end) place places up in
    All-cons (λ place. place.end ≤ top) place places
    (start_below place.end places top rise.1 (λ k d lt. let order = rest k d lt in omega arith)) (ends_under place.end places top rest rise.1)

undivided_end : (start front : ℕ) → All (λ place. (place.standing ≡ Undivided) × (place.end ≡ start + front)) (undivided_places start front)
undivided_end zero front = All-nil (λ place. (place.standing ≡ Undivided) × (place.end ≡ zero + front))
undivided_end (suc before) zero = All-nil (λ place. (place.standing ≡ Undivided) × (place.end ≡ suc before + zero))
undivided_end (suc before) (suc more) = grind (arith, All-cons, All-nil)

module _ (copies : List (List ℕ)) (spliced : SplicedValue) (is : IsSpliceOf copies spliced) where
  -- a place that is settled above the hole, one of the hole's, or what of it can't be divided
  pub data IsHigh : Place → Type 0 where
    above : {place : Place} → IsSettledDown copies spliced.payload place → is.start ≤ place.start → IsHigh place
    inside : (place : Place) → Contains is.hole.places place → IsHigh (moved_by is.start place)
    undivided : {place : Place} → place.standing ≡ Undivided → place.end ≡ is.start + is.hole.front → IsHigh place

  -- where a start from the hole on is claimed, the place is one of them
  abbrev IsHighIfClaimed : Place → Type 0
  IsHighIfClaimed place = (start : ℕ) → IsClaimedFrom copies is.start place.end start → IsHigh place

  pub high : (place : Place) → Contains spliced.places place → IsHighIfClaimed place
  high place there =
      All-contains IsHighIfClaimed spliced.places place
      (all_places copies spliced is IsHighIfClaimed
      (λ k d lt start claim.
      let order = start_within copies spliced is in
      let low = starts_above (length spliced.payload) is.above is.end (above_upright copies spliced is) is.down.lie k d lt in
      above (is.down.settled k d lt) (omega arith))
      (λ k d lt start claim. inside (get_or is.hole.places k d) (All-contains_itself is.hole.places k d lt))
      (λ k d lt start claim. let at = undivided_end is.start is.hole.front k d lt in undivided at.0 at.1)
      (λ k d lt start claim.
      let under = ends_under 0 (lower copies spliced is) is.start (lower_upright copies spliced is) (lower_rise copies spliced is) k d lt in
      let beyond = claim.beyond in
      absurd (omega (arith, claim_below copies start (get_or (lower copies spliced is) k d).end claim.claim)))) there

  -- ---- claims at a place of the hole

  module _ (end start : ℕ) (within : is.start + end ≤ is.end) where
    in_hole : IsClaimedFrom copies is.start (is.start + end) start → (inner : ℕ) × (start ≡ is.start + inner)
        × IsClaimedStart (versions_at copies is.start is.end) end inner
    in_hole claim =
        let at : start ≡ is.start + (start - is.start) = omega arith in
        (start - is.start, at, claim_in is.start is.end copies end (start - is.start) within (subst (IsClaimedStart copies (is.start + end)) at claim.claim))

    out_of_hole : IsClaimedStart (versions_at copies is.start is.end) end start → IsClaimedFrom copies is.start (is.start + end) (is.start + start)
    out_of_hole claim = record { claim = claim_out is.start is.end copies end start within claim; beyond = omega arith }

  pub only_inside : (end start : ℕ) → is.start + end ≤ is.end → IsOnly (IsClaimedFrom copies is.start (is.start + end)) start
      → (inner : ℕ) × (start ≡ is.start + inner) × IsOnly (IsClaimedStart (versions_at copies is.start is.end) end) inner
  only_inside end start within only =
      let there = in_hole end start within only.there in
      let at = there.1 in
      (there.0, at, record { there = there.2; others = λ other claim. let same = only.others (is.start + other) (out_of_hole end other within claim) in omega arith })

  pub two_inside : (end : ℕ) → is.start + end ≤ is.end → IsOfTwo (IsClaimedFrom copies is.start (is.start + end))
      → IsOfTwo (IsClaimedStart (versions_at copies is.start is.end) end)
  two_inside end within two =
      let one = in_hole end two.one within two.one_there in
      let other = in_hole end two.other within two.other_there in
      record { one = one.0; other = other.0; one_there = one.2; other_there = other.2; differ = λ same. two.differ (one.1 ∙ ap (λ n. is.start + n) same ∙ sym other.1) }

  -- ---- one start that is claimed alone

  begins_there : (place : Place) (start : ℕ) → IsOnly (IsClaimedFrom copies is.start place.end) start → IsHigh place → place.start ≡ start
  begins_there place start only (above settled low) =
      let piece = settled.only.there in
      cc (only.others place.start (record { claim = record { copy = piece.copy; there = piece.there; cut = piece.cut; content = piece.content }; beyond = low }))
  begins_there _ start only (inside place there) =
      let within = All-contains (λ place. is.start + place.end ≤ is.end) is.hole.places place (hole_within copies spliced is) there in
      let at = only_inside place.end start within only in
      let stands = All-contains (λ place. StandsAs (versions_at copies is.start is.end) place.start place.end
      (slice_range spliced.payload (is.start + place.start) (is.start + place.end)) place.standing) is.hole.places place (hole_stands copies spliced is) there in
      elim (claims_start (versions_at copies is.start is.end) place.start place.end
      (slice_range spliced.payload (is.start + place.start) (is.start + place.end)) place.standing stands) [
        | inl claim ↦ ap (λ n. is.start + n) (at.2.others place.start claim) ∙ sym at.1
        | inr none ↦ absurd (none.1 at.0 at.2.there)
      ]
  begins_there place start only (undivided stands ends) =
      let long = hole_length copies spliced is in
      let front = front_below (length is.hole.payload) is.hole.places is.hole.front (hole_upright copies spliced is) is.divided.lie in
      let at = only_inside is.hole.front start (omega arith) (subst (λ e. IsOnly (IsClaimedFrom copies is.start e) start) ends only) in
      absurd (is.divided.stop.no_claim at.0 at.2)

  -- ---- several starts that are claimed

  module _ (original : List ℕ) (count : ℕ) where
    -- what is woven of several starts is woven with the size
    several_slice : (cut : List (List ℕ)) (start end : ℕ) (slice bytes : List ℕ) → IsFramed slice → PassesParity slice → IsOfTwo (IsClaimedStart cut end)
        → IsAmongTried (map sized (versions_at cut start end)) slice → StandsAs cut start end bytes (Woven count) → bytes ≡ slice
    several_slice cut start end slice bytes framed passes two among (inl h) = absurd (two_not_only (IsClaimedStart cut end) two start h.claim)
    several_slice cut start end slice bytes framed passes two among (inr (inl h)) = absurd (h.1.no_claim two.one two.one_there)
    several_slice cut start end slice bytes framed passes two among (inr (inr h)) =
        slice_of_weave slice framed passes (map sized (versions_at cut start end)) bytes (get_or h.tried start 0) among h.weave'

    sized_place : (place : Place) → IsHigh place → IsOfTwo (IsClaimedFrom copies is.start place.end) → IsLinkOf original place.start place.end
        → PassesParity (slice_range original place.start place.end)
        → IsAmongTried (map sized (versions_at copies place.start place.end)) (slice_range original place.start place.end) → place.standing ≡ Woven count
        → slice_range spliced.payload place.start place.end ≡ slice_range original place.start place.end
    sized_place place (above settled low) two link passes among as_woven = let here = settled.standing in absurd (cc)
    sized_place _ (inside place there) two link passes among as_woven =
        let within = All-contains (λ place. is.start + place.end ≤ is.end) is.hole.places place (hole_within copies spliced is) there in
        let slice : List ℕ = slice_range original (is.start + place.start) (is.start + place.end) in
        let bytes : List ℕ = slice_range spliced.payload (is.start + place.start) (is.start + place.end) in
        let stands : StandsAs (versions_at copies is.start is.end) place.start place.end bytes place.standing =
        All-contains (λ place. StandsAs (versions_at copies is.start is.end) place.start place.end
        (slice_range spliced.payload (is.start + place.start) (is.start + place.end)) place.standing) is.hole.places place (hole_stands copies spliced is) there in
        cc (several_slice (versions_at copies is.start is.end) place.start place.end slice bytes (framed_link original (is.start + place.start) (is.start + place.end) link) passes (two_inside place.end within two) (subst (λ vs. IsAmongTried (map sized vs) slice) (sym (versions_of_versions is.start is.end copies place.start place.end within)) among) (subst (StandsAs (versions_at copies is.start is.end) place.start place.end bytes) as_woven stands))
    sized_place place (undivided stands ends) two link passes among as_woven = absurd (cc)

pub claimed_alone_is_original : ClaimedAloneIsOriginal
claimed_alone_is_original original copies spliced place start is there only link passes tried =
    let same = begins_there copies spliced is place start only (high copies spliced is place there start only.there) in
    let at = sym same in (
      same,
      woven_is_original original copies spliced place is there (rw (← at) link) (rw (← at) passes) (rw (← at) tried),
    )

pub sized_is_original : SizedIsOriginal
sized_is_original original copies spliced place count is there link (inl no_claim) passes among as_woven =
    cc ((woven_is_original original copies spliced place is there link passes (record { claimed = λ claim. absurd (no_claim claim); unclaimed = λ content none. among; several = λ two are_bytes. among })).woven count as_woven)
sized_is_original original copies spliced place count is there link (inr two) passes among as_woven =
    sized_place copies spliced is original count place (high copies spliced is place there two.one two.one_there) two link passes among as_woven
