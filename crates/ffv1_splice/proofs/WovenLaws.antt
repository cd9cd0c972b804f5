-- What is woven of copies of an original.
use Rattle.ffv1_slice.proofs.Links.{end_within}
use Rattle.ffv1_splice.proofs.Common.{◌≡◌, ℕ, ◌<◌, List, length, get_or, map, refl, sym, ◌∙◌, subst, arith, inl, inr, All, Contains, slice_range, All-contains_itself, cases_eq, AreBytes, PassesParity, AreBytes-range, FooterGives, IsEnd, IsLinkOf, IsFramed, last, IsOnly, IsOfTwo, length-range, size_of_range, IsAmongTried, KeepsOriginal, Weave, IsWeaveOf, AreMany, Slice, original_is_woven, IsClaimedStart, versions_at, sized, IsWeaveAt, IsUnwovenAt, IsWeaveOfSeveral, StandsAs, SplicedValue, IsDivisionOf, IsSpliceOf, IsSettledOrWoven, IsGivenBack, AreCopiesOf, IsTriedAt, AreWeavable, KeepsLink, WovenIsOriginal, GivenBackIsOriginal, Standing, Settled, Woven, Voted, Repaired, Disputed, Missing, Undivided, Place}
use Rattle.ffv1_weave.specs.Weave.Weave.{woven as weave_woven, missing as weave_missing}
use Rattle.ffv1_splice.proofs.DividedLinks.{link_at, AreLinkPlaces, link_places, settled_link, same_payload}
use Rattle.ffv1_splice.proofs.Versions.{version_of}
use Rattle.ffv1_splice.proofs.PlaceSteps.{claim_below, unwoven_weave, missing_unwoven}
use Rattle.ffv1_splice.proofs.NarrowedOriginal.{AreWeavableDown, copies_narrowed, weavable_narrowed}
use Rattle.ffv1_splice.proofs.Walks.{division_walk, stands_below}
use Rattle.ffv1_splice.proofs.SplicePlaces.{places_lie, start_within}
use Rattle.ffv1_splice.proofs.StandingPlaces.{between_versions, between_tried, IsPlaceOf, place_of, hole_given_back}
use Rattle.ffv1_splice.proofs.StandingPlaces.IsPlaceOf.{above, between, undivided, below}
use Rattle.ffv1_splice.proofs.SameBytes.{IsSameAt}
use Rattle.ffv1_splice.proofs.OriginalLaws.{settled_is_original, as_long, above_links, across_links, joined_links}

-- a link's slice has its footer
pub framed_link : (original : List ℕ) (start end : ℕ) → IsLinkOf original start end → IsFramed (slice_range original start end)
framed_link original start end link = grind (arith, end_within, length-range, size_of_range)

-- ---- a slice that is among the combinations

-- what is woven of versions among whose combinations it is
pub slice_of_weave : (slice : List ℕ) → IsFramed slice → PassesParity slice → (versions : List (List ℕ)) (bytes : List ℕ) (count : ℕ)
    → IsAmongTried versions slice → IsWeaveOf Slice versions (weave_woven bytes count) → bytes ≡ slice
slice_of_weave slice framed passes versions bytes count among h = original_is_woven Slice slice versions (weave_woven bytes count) (framed, passes) among h

-- the copies are of bytes, and so is what they have between two places
versions_bytes : (copies : List (List ℕ)) (start end : ℕ) → ((copy : List ℕ) → Contains copies copy → AreBytes copy)
    → (version : List ℕ) → Contains (versions_at copies start end) version → AreBytes version
versions_bytes copies start end are_bytes version there =
    let of = version_of copies start end version there in
    subst AreBytes (sym of.2) (AreBytes-range of.0 start end (are_bytes of.0 of.1))

module _ (copies : List (List ℕ)) (start end : ℕ) (slice : List ℕ) (framed : IsFramed slice) (passes : PassesParity slice)
    (tried : IsTriedAt copies start end slice) where
  -- What is woven is the slice.
  pub woven_slice : (bytes : List ℕ) (standing : Standing) (count : ℕ) → standing ≡ Woven count → StandsAs copies start end bytes standing → bytes ≡ slice
  woven_slice bytes (Woven n) count is (inl h) =
      slice_of_weave slice framed passes (versions_at copies start end) bytes n (tried.claimed h.claim.there) h.weave'
  woven_slice bytes (Woven n) count is (inr (inr h)) =
      cc (slice_of_weave slice framed passes (map sized (versions_at copies start end)) bytes (get_or h.tried start 0) (tried.several h.several (versions_bytes copies start end h.are_bytes)) h.weave')
  woven_slice bytes (Woven n) count is (inr (inl h)) =
      let first : IsTriedAt copies 0 end slice = subst (λ s. IsTriedAt copies s end slice) h.0 tried in
      slice_of_weave slice framed passes (map sized (versions_at copies 0 end)) bytes n (first.unclaimed h.1.content (h.1.no_claim 0)) h.1.weave'
  woven_slice bytes standing count is h = absurd (cc)

  -- something is woven from the one start that is claimed, if there are not too many combinations
  kept : (weave : Weave) → IsWeaveAt copies start end weave → KeepsOriginal slice weave
  kept weave h = original_is_woven Slice slice (versions_at copies start end) weave (framed, passes) (tried.claimed h.claim.there) h.weave'

  -- it is not repaired, ..
  pub unrepaired_slice : (bytes : List ℕ) (standing : Standing) (count : ℕ) → standing ≡ Repaired count → StandsAs copies start end bytes standing → ⊥
  unrepaired_slice bytes (Repaired n) count is h = kept (weave_missing h.combinations) h.missed
  unrepaired_slice bytes standing count is h = absurd (cc)

  -- .. and where nothing is woven there are too many combinations: ..
  unwoven_slice : IsUnwovenAt copies start end → AreMany (versions_at copies start end)
  unwoven_slice (inl h) = absurd (kept (weave_missing h.0) h.1)
  unwoven_slice (inr h) = h.weave'

  -- .. so where it is missing, ..
  pub missing_slice : (bytes : List ℕ) (standing : Standing) → standing ≡ Missing → StandsAs copies start end bytes standing
      → AreMany (versions_at copies start end)
  missing_slice bytes Missing is h = unwoven_slice (missing_unwoven copies start end h.0)
  missing_slice bytes standing is h = absurd (cc)

  -- .. and where it is voted
  pub voted_slice : (bytes : List ℕ) (standing : Standing) (count : ℕ) → standing ≡ Voted count → StandsAs copies start end bytes standing
      → AreMany (versions_at copies start end)
  voted_slice bytes (Voted n) count is h = unwoven_slice h.unwoven
  voted_slice bytes standing count is h = absurd (cc)

-- ---- what is woven in a splice

module _ (original : List ℕ) (copies : List (List ℕ)) (spliced : SplicedValue) (is : IsSpliceOf copies spliced) where
  -- a place that is neither woven nor repaired, missing or voted
  keeps_unless : (place : Place) → ((n : ℕ) → place.standing ≡ Woven n → ⊥) → ((n : ℕ) → place.standing ≡ Repaired n → ⊥)
      → (place.standing ≡ Missing → ⊥) → ((n : ℕ) → place.standing ≡ Voted n → ⊥) → KeepsLink original copies spliced place
  keeps_unless place not_woven not_repaired not_missing not_voted = grind arith

  keeps_settled : (place : Place) → place.standing ≡ Settled → KeepsLink original copies spliced place
  keeps_settled place settled = keeps_unless place (λ n woven. cc) (λ n repaired. cc) (λ missing. cc) (λ n voted. cc)

  keeps_undivided : (place : Place) → place.standing ≡ Undivided → KeepsLink original copies spliced place
  keeps_undivided place stands = keeps_unless place (λ n woven. cc) (λ n repaired. cc) (λ missing. cc) (λ n voted. cc)

  keeps_link : (place : Place) → IsPlaceOf copies spliced is place → IsLinkOf original place.start place.end
      → PassesParity (slice_range original place.start place.end) → IsTriedAt copies place.start place.end (slice_range original place.start place.end)
      → KeepsLink original copies spliced place
  keeps_link place (above settled) link passes tried = keeps_settled place settled.standing
  keeps_link place (between h) link passes tried =
      let bytes : List ℕ = slice_range spliced.payload place.start place.end in
      let slice : List ℕ = slice_range original place.start place.end in
      let versions : List (List ℕ) = versions_at copies h.from h.to in
      let same = between_versions copies spliced.payload place h in
      let framed = framed_link original place.start place.end link in
      let there = between_tried copies spliced.payload place h slice tried in
      record {
        woven = λ count woven. woven_slice versions h.start h.end slice framed passes there bytes place.standing count woven h.stands;
        unrepaired = λ count repaired. unrepaired_slice versions h.start h.end slice framed passes there bytes place.standing count repaired h.stands;
        missing = λ missing. subst AreMany same (missing_slice versions h.start h.end slice framed passes there bytes place.standing missing h.stands);
        voted = λ count voted. subst AreMany same (voted_slice versions h.start h.end slice framed passes there bytes place.standing count voted h.stands);
      }
  keeps_link place (undivided stands) link passes tried = keeps_undivided place stands
  keeps_link place (below settled) link passes tried = keeps_settled place settled.standing

pub woven_is_original : WovenIsOriginal
woven_is_original original copies spliced place is there = keeps_link original copies spliced is place (place_of copies spliced is place there)

-- ---- divisions that are given back

module _ (original : List ℕ) (copies : List (List ℕ)) (spliced : SplicedValue) (of : AreCopiesOf original copies)
    (weavable : AreWeavableDown original copies) (is : IsDivisionOf copies spliced) (given : IsGivenBack spliced) where
  -- a start that is claimed alone is the link's
  claim_cut : (start end : ℕ) → IsEnd original end → 0 < end → IsOnly (IsClaimedStart copies end) start → FooterGives original start end
  claim_cut start end is_end after only =
      let at = link_at original of.whole end is_end after in
      subst (λ s. FooterGives original s end) (only.others at.0 (weavable.claim at.0 end (record { is_end = is_end; cut = at.1 }))) at.1

  -- a link's slice is among the combinations of what the copies have there with its size
  among_sized : (start end : ℕ) → IsLinkOf original start end → IsOfTwo (IsClaimedStart copies end)
      → ((copy : List ℕ) → Contains copies copy → AreBytes copy) → IsAmongTried (map sized (versions_at copies start end)) (slice_range original start end)
  among_sized start end link two are_bytes = (weavable.among start end link).several two (versions_bytes copies start end are_bytes)

  -- of several starts the one that gives a slice is the link's, since something comes of that
  several_cut : (start end : ℕ) (bytes : List ℕ) (count : ℕ) → IsEnd original end → IsWeaveOfSeveral copies start end bytes count → FooterGives original start end
  several_cut start end bytes count is_end h =
      let at = link_at original of.whole end is_end (omega arith) in
      let link : IsLinkOf original at.0 end = record { is_end = is_end; cut = at.1 } in
      elim (cases_eq at.0 start) [
        | inl same ↦ subst (λ s. FooterGives original s end) same at.1
        | inr apart ↦
            absurd (original_is_woven Slice (slice_range original at.0 end) (map sized (versions_at copies at.0 end)) (weave_missing (get_or h.tried at.0 0))
            (framed_link original at.0 end link, weavable.passes at.0 end link) (among_sized at.0 end link h.several h.are_bytes)
            (h.others at.0 (weavable.claim at.0 end link) apart))
      ]

  cuts : (start end : ℕ) (bytes : List ℕ) (standing : Standing) → IsEnd original end → StandsAs copies start end bytes standing → FooterGives original start end
  cuts start end bytes Settled is_end h = (weavable.agree end (record { start = start; bytes = bytes }) is_end h.there).0.cut
  cuts start end bytes (Woven count) is_end (inl h) =
      let below = claim_below copies start end h.claim.there in claim_cut start end is_end (omega arith) h.claim
  cuts start end bytes (Woven count) is_end (inr (inl h)) =
      let at = link_at original of.whole end is_end (omega arith) in
      absurd (h.1.no_claim at.0 (weavable.claim at.0 end (record { is_end = is_end; cut = at.1 })))
  cuts start end bytes (Woven count) is_end (inr (inr h)) = several_cut start end bytes count is_end h
  cuts start end bytes (Voted count) is_end h =
      let claim = (unwoven_weave copies start end h.unwoven).1.claim in
      let below = claim_below copies start end claim.there in claim_cut start end is_end (omega arith) claim
  cuts start end bytes (Repaired count) is_end h =
      let below = claim_below copies start end h.missed.claim.there in claim_cut start end is_end (omega arith) h.missed.claim
  cuts start end bytes Disputed is_end h =
      let below = stands_below copies start end bytes Disputed h in claim_cut start end is_end (omega arith) h.1.claim
  cuts start end bytes Missing is_end h =
      let below = stands_below copies start end bytes Missing h in claim_cut start end is_end (omega arith) h.1.claim
  cuts start end bytes Undivided is_end h = absurd h

  long : length spliced.payload ≡ length original
  long = sym (is.one_length is.before.copy is.before.there) ∙ of.one_length is.before.copy is.before.there

  places : AreLinkPlaces original (length original) spliced.places spliced.front
  places =
      link_places original copies cuts (length original) spliced.places spliced.front spliced.payload
      (λ stop is_end after stops same. absurd (omega (arith, given.0))) last (rw (← long) (division_walk copies spliced is))

  -- a place that is settled or woven has the link's bytes
  has_link : (start end : ℕ) (bytes : List ℕ) (standing : Standing) → IsLinkOf original start end → IsSettledOrWoven standing
      → StandsAs copies start end bytes standing → bytes ≡ slice_range original start end
  has_link start end bytes Settled link right h = (settled_link original copies weavable.agree start end bytes Settled link.is_end refl h).1
  has_link start end bytes (Woven count) link right h =
      cc (woven_slice copies start end (slice_range original start end) (framed_link original start end link) (weavable.passes start end link) (weavable.among start end link) bytes (Woven count) count refl h)
  has_link start end bytes standing link right h = absurd right

  each_same : All (λ place. slice_range spliced.payload place.start place.end ≡ slice_range original place.start place.end) spliced.places
  each_same k d lt =
      let place : Place = get_or spliced.places k d in
      cc (has_link place.start place.end (slice_range spliced.payload place.start place.end) place.standing (places.each k d lt) (given.1 k d lt) (is.stand k d lt))

  pub given_back_divided : AreLinkPlaces original (length original) spliced.places spliced.front × (spliced.payload ≡ original)
  given_back_divided = (places, same_payload original spliced (length original) places is.lie long each_same)

-- ---- splices that are given back

-- a link's place that is settled or woven has the link's bytes
given_link : (original : List ℕ) (copies : List (List ℕ)) (spliced : SplicedValue) → AreWeavable original copies → IsSpliceOf copies spliced
    → (place : Place) → Contains spliced.places place → IsLinkOf original place.start place.end → IsSettledOrWoven place.standing
    → (standing : Standing) → place.standing ≡ standing → IsSameAt spliced.payload original place
given_link original copies spliced weavable is place there link right Settled stands =
    (settled_is_original original copies spliced place weavable.agree is there stands link.is_end).1
given_link original copies spliced weavable is place there link right (Woven count) stands =
    cc ((woven_is_original original copies spliced place is there link (weavable.passes place.start place.end link) (weavable.among place.start place.end link)).woven count stands)
given_link original copies spliced weavable is place there link right standing stands = absurd (subst IsSettledOrWoven stands right)

module _ (original : List ℕ) (copies : List (List ℕ)) (spliced : SplicedValue) (of : AreCopiesOf original copies) (weavable : AreWeavable original copies)
    (is : IsSpliceOf copies spliced) (given : IsGivenBack spliced) where
  given_links : AreLinkPlaces original (length original) spliced.places spliced.front
  given_links =
      let down = above_links original copies spliced is of weavable.agree in
      let across = across_links original copies spliced is of weavable.agree weavable.below weavable.claim in
      let order = start_within copies spliced is in
      let hole = given_back_divided (slice_range original is.start is.end) (versions_at copies is.start is.end) is.hole
      (copies_narrowed is.start is.end original order down.is_end copies across.is_end of.one_length)
      (weavable_narrowed is.start is.end original order down.is_end copies weavable) is.divided (hole_given_back copies spliced is given) in
      joined_links original copies spliced is of weavable.agree weavable.below across.links hole.0.each hole.0.whole

  given_same : spliced.payload ≡ original
  given_same =
      cc (same_payload original spliced (length original) given_links (places_lie copies spliced is) (as_long original copies spliced is of weavable.agree) (λ k d lt. let place : Place = get_or spliced.places k d in given_link original copies spliced weavable is place (All-contains_itself spliced.places k d lt) (given_links.each k d lt) (given.1 k d lt) place.standing refl))

pub given_back_is_original : GivenBackIsOriginal
given_back_is_original original copies spliced of weavable is given =
    let links = given_links original copies spliced of weavable is given in
    (record { links = links.links; whole = links.whole }, given_same original copies spliced of weavable is given)
