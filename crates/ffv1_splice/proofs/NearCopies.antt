-- The splice of copies that are near an original.
use Rattle.ffv1_splice.proofs.Common.{◌≡◌, ℕ, List, length, get_or, sym, ◌∙◌, arith, ◌↔◌, All, Contains, slice_range, All-append, All-contains, All-weaker, IsLinkOf, link_of, IsPiece, IsClaimedStart, versions_at, SplicedValue, IsSettledDown, IsSettledUp, IsCrossed, crossing_places, IsSpliceOf, AreConsistentWith, AreConsistentFromBelow, IsAmong, AreNearCopies, IsIntactInSome, IsItsLink, IsLinkIfSettled, KeepsLink, IsNearSplice, NearCopiesSplice, Settled, Place}
use Rattle.ffv1_splice.proofs.DividedLinks.{AreLinkPlaces}
use Rattle.ffv1_splice.proofs.Narrowed.{range_of_range}
use Rattle.ffv1_splice.proofs.NarrowedOriginal.{intact_narrowed, near_narrowed}
use Rattle.ffv1_splice.proofs.PlaceLists.{no_undivided}
use Rattle.ffv1_splice.proofs.SplicePlaces.{all_crossings_lower, all_places, copy_at_hand, start_within}
use Rattle.ffv1_splice.proofs.StandingPlaces.{hole_within, hole_bytes}
use Rattle.ffv1_splice.proofs.OriginalLaws.{AreWalkLinks, AreLegLinks, above_links, below_links, across_links, joined_links, is_original}
use Rattle.ffv1_splice.proofs.Crossings.{crossed_unsettled, crossed_no_piece}
use Rattle.ffv1_splice.proofs.WovenLaws.{woven_is_original, given_back_is_original}
use Rattle.ffv1_splice.proofs.NearDivisions.{near_agree, claim_link, intact_piece, piece_intact, are_copies, tried_link, are_weavable, divided_links, near_divided}

module _ (original : List ℕ) (copies : List (List ℕ)) (near : AreNearCopies original copies) (from_below : AreConsistentFromBelow original copies)
    (spliced : SplicedValue) (is : IsSpliceOf copies spliced) where
  agree : AreConsistentWith original copies
  agree = near_agree original copies near

  down : AreWalkLinks original spliced is.above is.end
  down = above_links original copies spliced is (are_copies original copies near) agree

  up : AreWalkLinks original spliced is.below is.floor
  up = below_links original copies spliced is (are_copies original copies near) agree from_below

  -- each copy claims the start of each link
  claim : (start end : ℕ) → IsLinkOf original start end → IsClaimedStart copies end start
  claim = let copy = copy_at_hand copies spliced is in claim_link original copies near copy.0 copy.1

  across : AreLegLinks original spliced is.crossings is.start
  across = across_links original copies spliced is (are_copies original copies near) agree from_below claim

  -- ---- the hole

  -- what the original has there
  abbrev range : List ℕ
  range = slice_range original is.start is.end

  near_hole : AreNearCopies range (versions_at copies is.start is.end)
  near_hole = near_narrowed is.start is.end original (start_within copies spliced is) down.is_end copies across.is_end near

  hole_links : AreLinkPlaces range (length range) is.hole.places is.hole.front
  hole_links = divided_links range (versions_at copies is.start is.end) near_hole is.hole is.divided

  hole : IsNearSplice range (versions_at copies is.start is.end) is.hole
  hole = near_divided range (versions_at copies is.start is.end) near_hole is.hole is.divided

  -- ---- where places are settled

  abbrev IsSettledWhere : Place → Type 0
  IsSettledWhere place = (place.standing ≡ Settled) ↔ IsIntactInSome original copies place.start place.end

  -- a settled place is intact in some copy
  settled_where : (place : Place) → IsItsLink original spliced place → place.standing ≡ Settled
      → IsPiece copies place.end (link_of spliced.payload place.start place.end) → IsSettledWhere place
  settled_where place its settled piece = grind (arith, piece_intact)

  -- a place over a lost slice is not, and neither is it settled
  crossed_where : (place : Place) → IsCrossed copies is.bound spliced.payload place → IsLinkOf original place.start place.end → IsSettledWhere place
  crossed_where place crossed link = (
    λ settled. absurd (crossed_unsettled copies is.bound spliced.payload place crossed settled),
    λ intact. absurd (crossed_no_piece copies is.bound spliced.payload place crossed (slice_range original place.start place.end)
        (intact_piece original copies near place.start place.end link intact)),
  )

  all_settled_where : All IsSettledWhere spliced.places
  all_settled_where =
      all_places copies spliced is IsSettledWhere
      (λ k d lt. let settled : IsSettledDown copies spliced.payload (get_or is.above k d) = is.down.settled k d lt in
      settled_where (get_or is.above k d) (down.links k d lt) settled.standing settled.only.there)
      (λ k d lt. let place : Place = get_or is.hole.places k d in
      let same = intact_narrowed is.start is.end original copies place.start place.end (hole_within copies spliced is k d lt) in
      let here = hole.settled k d lt in (λ settled. same.0 (here.0 settled), λ intact. here.1 (same.1 intact)))
      (no_undivided IsSettledWhere is.start is.hole.front hole_links.whole)
      (All-append IsSettledWhere is.below (crossing_places is.crossings)
      (λ k d lt. let settled : IsSettledUp copies is.bound spliced.payload (get_or is.below k d) = is.up.settled k d lt in
      settled_where (get_or is.below k d) (up.links k d lt) settled.standing settled.only.there)
      (λ k d lt. all_crossings_lower copies spliced is (λ place. IsLinkIfSettled original spliced place → IsSettledWhere place)
      (λ place settled link. settled_where place (link.settled settled.standing) settled.standing settled.only.there)
      (λ place crossed link. crossed_where place crossed link.link) k d lt (across.links k d lt)))

  abbrev HasBytesWhereSettled : Place → Type 0
  HasBytesWhereSettled place =
      place.standing ≡ Settled → slice_range spliced.payload place.start place.end ≡ slice_range original place.start place.end

  all_bytes : All HasBytesWhereSettled spliced.places
  all_bytes =
      all_places copies spliced is HasBytesWhereSettled
      (All-weaker (IsItsLink original spliced) HasBytesWhereSettled (λ place its settled. its.bytes) is.above down.links)
      (λ k d lt settled. let place : Place = get_or is.hole.places k d in
      sym (hole_bytes copies spliced is k d lt) ∙ hole.bytes k d lt settled
      ∙ range_of_range is.start is.end original place.start place.end (hole_within copies spliced is k d lt))
      (no_undivided HasBytesWhereSettled is.start is.hole.front hole_links.whole)
      (All-append HasBytesWhereSettled is.below (crossing_places is.crossings)
      (All-weaker (IsItsLink original spliced) HasBytesWhereSettled (λ place its settled. its.bytes) is.below up.links)
      (All-weaker (IsLinkIfSettled original spliced) HasBytesWhereSettled (λ place its settled. (its.settled settled).bytes) (crossing_places is.crossings)
      across.links))

  all_links : AreLinkPlaces original (length original) spliced.places spliced.front
  all_links =
      joined_links original copies spliced is (are_copies original copies near) agree from_below across.links hole_links.each hole_links.whole

  kept : (place : Place) → Contains spliced.places place → IsAmong original copies place.start place.end → KeepsLink original copies spliced place
  kept place there among =
      let copy = copy_at_hand copies spliced is in
      let link = All-contains (λ place. IsLinkOf original place.start place.end) spliced.places place all_links.each there in
      woven_is_original original copies spliced place is there link (near.undamaged.passes place.start place.end link)
      (tried_link original copies near copy.0 copy.1 place.start place.end link among)

  near_splice : IsNearSplice original copies spliced
  near_splice = record {
    places = record { links = all_links.links; whole = all_links.whole };
    settled = all_settled_where;
    bytes = all_bytes;
  }

pub near_copies_splice : NearCopiesSplice
near_copies_splice = record {
  agree = near_agree;
  near = λ original copies spliced near below is. near_splice original copies near below spliced is;
  original = λ original copies spliced near intact is. is_original original copies (are_copies original copies near) (near_agree original copies near)
      (λ start end link. intact_piece original copies near start end link (intact start end link)) spliced is;
  kept = λ original copies spliced place near below is there among. kept original copies near below spliced is place there among;
  woven = λ original copies spliced near below among is given.
      let copy = copy_at_hand copies spliced is in
      (given_back_is_original original copies spliced (are_copies original copies near)
      (are_weavable original copies near copy.0 copy.1 below among) is given).1;
}
