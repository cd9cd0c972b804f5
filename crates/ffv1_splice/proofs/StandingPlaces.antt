-- How the places of a splice stand.
use Rattle.ffv1_splice.proofs.Common.{◌≡◌, ℕ, ◌+◌, ◌≤◌, List, length, get_or, refl, sym, ◌∙◌, subst, arith, All, Contains, slice_range, All-contains, All-contains_itself, link_of, AllReach, IsPiece, versions_at, StandsAs, SplicedValue, IsSettledDown, IsSettledUp, IsCrossed, IsSpliceOf, moved_by, IsSettledOrWoven, IsGivenBack, IsTriedAt, Settled, Undivided, Place}
use Rattle.ffv1_splice.proofs.Walks.{ends_below}
use Rattle.ffv1_splice.proofs.Narrowed.{range_of_range, versions_of_versions, piece_out}
use Rattle.ffv1_splice.proofs.NarrowedOriginal.{tried_narrowed}
use Rattle.ffv1_splice.proofs.PlaceLists.{all_stand_undivided, no_front}
use Rattle.ffv1_splice.proofs.BoundSteps.{bound_within}
use Rattle.ffv1_splice.proofs.Crossings.{crossed_within}
use Rattle.ffv1_splice.proofs.SplicePlaces.{all_lower, all_places, all_of_hole, all_undivided, end_within, hole_length, hole_upright}

-- The place stands as follows from what the copies have from one place up to another: so the hole's places do, and those over lost slices.
pub record StandsBetween (copies : List (List ℕ)) (payload : List ℕ) (place : Place) : Type 0 where
  pub from : ℕ
  pub to : ℕ
  pub start : ℕ
  pub end : ℕ
  pub starts : place.start ≡ from + start
  pub ends : place.end ≡ from + end
  pub within : from + end ≤ to
  pub reach : AllReach copies to
  pub stands : StandsAs (versions_at copies from to) start end (slice_range payload place.start place.end) place.standing

module _ (copies : List (List ℕ)) (payload : List ℕ) (place : Place) (h : StandsBetween copies payload place) where
  -- what the cut copies have there is what the copies have there
  pub between_versions : versions_at (versions_at copies h.from h.to) h.start h.end ≡ versions_at copies place.start place.end
  between_versions = grind (arith, versions_of_versions)

  -- a slice that is among the combinations that are tried there is among those that are tried of the cut copies
  pub between_tried : (slice : List ℕ) → IsTriedAt copies place.start place.end slice → IsTriedAt (versions_at copies h.from h.to) h.start h.end slice
  between_tried slice tried = grind (arith, tried_narrowed)

-- How a place of the splice stands: settled from above or from below, as follows from copies that are cut, or as what can't be divided.
pub data IsPlaceOf (copies : List (List ℕ)) (spliced : SplicedValue) (is : IsSpliceOf copies spliced) : Place → Type 0 where
  above : {place : Place} → IsSettledDown copies spliced.payload place → IsPlaceOf copies spliced is place
  between : {place : Place} → StandsBetween copies spliced.payload place → IsPlaceOf copies spliced is place
  undivided : {place : Place} → place.standing ≡ Undivided → IsPlaceOf copies spliced is place
  below : {place : Place} → IsSettledUp copies is.bound spliced.payload place → IsPlaceOf copies spliced is place

module _ (copies : List (List ℕ)) (spliced : SplicedValue) (is : IsSpliceOf copies spliced) where
  -- ---- the hole's places

  pub hole_within : All (λ place. is.start + place.end ≤ is.end) is.hole.places
  hole_within k d lt =
      let long = hole_length copies spliced is in
      let within = ends_below (length is.hole.payload) is.hole.places is.hole.front (hole_upright copies spliced is) is.divided.lie k d lt in
      omega arith

  -- the bytes of the hole, as the splice has them
  pub hole_bytes : All (λ place. slice_range is.hole.payload place.start place.end
      ≡ slice_range spliced.payload (is.start + place.start) (is.start + place.end)) is.hole.places
  hole_bytes k d lt = grind (arith, range_of_range, hole_within)

  pub hole_stands : All (λ place. StandsAs (versions_at copies is.start is.end) place.start place.end
      (slice_range spliced.payload (is.start + place.start) (is.start + place.end)) place.standing) is.hole.places
  hole_stands k d lt = grind (arith, hole_bytes)

  -- ---- where a place stands

  unfoldable pub between_hole : (place : Place) → Contains is.hole.places place → StandsBetween copies spliced.payload (moved_by is.start place)
  between_hole place there =
      let inside = end_within copies spliced is in
      record {
        from = is.start;
        to = is.end;
        start = place.start;
        end = place.end;
        starts = refl;
        ends = refl;
        within = All-contains (λ place. is.start + place.end ≤ is.end) is.hole.places place hole_within there;
        reach = λ copy copy_there. omega (arith, is.one_length copy copy_there);
        stands = All-contains (λ place. StandsAs (versions_at copies is.start is.end) place.start place.end
            (slice_range spliced.payload (is.start + place.start) (is.start + place.end)) place.standing) is.hole.places place hole_stands there;
      }

  unfoldable pub between_crossed : (place : Place) → IsCrossed copies is.bound spliced.payload place → StandsBetween copies spliced.payload place
  between_crossed place crossed =
      let inside = end_within copies spliced is in
      let below = bound_within copies is.end is.bound is.room in
      let within = crossed_within copies is.bound spliced.payload place crossed in
      let ends = crossed.ends in
      record {
        from = place.start;
        to = is.bound;
        start = 0;
        end = crossed.size;
        starts = omega arith;
        ends = ends;
        within = omega arith;
        reach = λ copy there. omega (arith, is.one_length copy there);
        stands = crossed.stands;
      }

  pub place_of : (place : Place) → Contains spliced.places place → IsPlaceOf copies spliced is place
  place_of place there =
      All-contains (IsPlaceOf copies spliced is) spliced.places place
      (all_places copies spliced is (IsPlaceOf copies spliced is)
      (λ k d lt. above (is.down.settled k d lt))
      (λ k d lt. between (between_hole (get_or is.hole.places k d) (All-contains_itself is.hole.places k d lt)))
      (λ k d lt. undivided (all_stand_undivided is.start is.hole.front k d lt))
      (all_lower copies spliced is (IsPlaceOf copies spliced is) (λ place settled. below settled)
      (λ place crossed. between (between_crossed place crossed)))) there

  -- ---- settled places

  -- each is a piece, with the bytes that the splice has there
  settled_at : (place : Place) → IsPlaceOf copies spliced is place → place.standing ≡ Settled
      → IsPiece copies place.end (link_of spliced.payload place.start place.end)
  settled_at place (above settled_down) settled = settled_down.only.there
  settled_at place (between h) settled =
      let bytes : List ℕ = slice_range spliced.payload place.start place.end in
      let stands : StandsAs (versions_at copies h.from h.to) h.start h.end bytes Settled = grind (arith, versions_at) in
      subst (λ s. IsPiece copies place.end (record { start = s; bytes = bytes })) (sym h.starts)
      (subst (λ e. IsPiece copies e (record { start = h.from + h.start; bytes = bytes })) (sym h.ends)
      (piece_out h.from h.to copies h.end (record { start = h.start; bytes = bytes }) h.within stands.there))
  settled_at place (undivided stands) settled = absurd (cc)
  settled_at place (below settled_up) settled = settled_up.only.there

  pub settled_piece : (place : Place) → Contains spliced.places place → place.standing ≡ Settled
      → IsPiece copies place.end (link_of spliced.payload place.start place.end)
  settled_piece place there = settled_at place (place_of place there)

  -- ---- the hole of a splice that is given back

  pub hole_given_back : IsGivenBack spliced → IsGivenBack is.hole
  hole_given_back given = (
    no_front is.start is.hole.front (sym is.front ∙ given.0)
        (all_undivided copies spliced is (λ place. IsSettledOrWoven place.standing) given.1),
    all_of_hole copies spliced is (λ place. IsSettledOrWoven place.standing) given.1,
  )
