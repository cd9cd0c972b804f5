-- The pieces and claimed starts of copies that are near an original, and how they are divided.
use Rattle.ffv1_slice.proofs.Links.{end_within, same_cut}
use Rattle.ffv1_splice.proofs.Common.{◌≡◌, ℕ, ◌+◌, ◌<◌, ◌≤◌, List, length, get_or, sym, ap, ◌∙◌, subst, arith, inl, inr, Contains, slice_range, PassesParity, burst, AreBytes-range, size_before, FooterGives, IsEnd, IsLinkOf, link_of, last, same_size_field, length-range, size_of_range, HasContent, IsPiece, IsClaimedStart, StandsAs, IsStop, SplicedValue, IsDivisionOf, AreCopiesOf, AreConsistentWith, AreConsistentFromBelow, IsAmong, IsTriedAt, AreWeavable, IsUndamaged, IsIntact, IsNearCopy, AreNearCopies, IsIntactInSome, IsNearSplice, Standing, Settled, Woven, Voted, Repaired, Disputed, Missing, Undivided}
use Rattle.ffv1_splice.proofs.PlaceSteps.{unwoven_weave}
use Rattle.ffv1_splice.proofs.DividedLinks.{link_at, AreLinkPlaces, link_places, settled_link, settled_where}
use Rattle.ffv1_splice.proofs.Walks.{division_walk}

-- ---- a near copy is cut where the original is

module _ (original copy : List ℕ) (undamaged : IsUndamaged original) (near : IsNearCopy original copy) (start end : ℕ) (link : IsLinkOf original start end) where
  within : end ≤ length original
  within = end_within original end link.is_end

  below : start + 8 ≤ end
  below = let cut : FooterGives original start end = link.cut in omega arith

  size_of : (bytes : List ℕ) → length bytes ≡ length original → size_before bytes end ≡ size_before (slice_range bytes start end)
      (length (slice_range bytes start end))
  size_of bytes long = size_of_range bytes start end below (omega (arith, within))

  long_slice : (bytes : List ℕ) → length bytes ≡ length original → 8 ≤ length (slice_range bytes start end)
  long_slice bytes long = let size = length-range bytes start end (omega (arith, below)) (omega (arith, within)) in omega (arith, below)

  same_size : size_before copy end ≡ size_before original end
  same_size = grind (arith, size_of, same_size_field, long_slice)

  pub near_cut : FooterGives copy start end
  near_cut = let cut : FooterGives original start end = link.cut in omega (arith, same_size)

  -- what passes its parity there is intact
  pub near_intact : PassesParity (slice_range copy start end) → IsIntact original copy start end
  near_intact passes = grind (arith, burst, AreBytes-range)

module _ (original : List ℕ) (copies : List (List ℕ)) (near : AreNearCopies original copies) where
  -- a start that is claimed is that of the original's link
  claimed_start : (end start claim : ℕ) → IsLinkOf original start end → IsClaimedStart copies end claim → claim ≡ start
  claimed_start end start claim link h =
      let cut : FooterGives h.copy start end = near_cut original h.copy near.undamaged (near.near h.copy h.there) start end link in
      same_cut h.copy claim start end h.cut cut

  pub near_agree : AreConsistentWith original copies
  near_agree end piece is_end h =
      let cut : FooterGives h.copy piece.start end = h.cut in
      let at = link_at original near.undamaged.whole end is_end (omega arith) in
      let link : IsLinkOf original at.0 end = record { is_end = is_end; cut = at.1 } in
      let start : piece.start ≡ at.0 = claimed_start end at.0 piece.start link
      (record { copy = h.copy; there = h.there; cut = h.cut; content = h.content }) in
      let mine : IsLinkOf original piece.start end = subst (λ s. IsLinkOf original s end) (sym start) link in
      let intact : IsIntact original h.copy piece.start end = grind (arith, near_intact) in
      (mine, ap (λ z. record { start = piece.start; bytes = z }) (h.bytes ∙ intact))

  -- a link that is intact in some copy is a piece
  pub intact_piece : (start end : ℕ) → IsLinkOf original start end → IsIntactInSome original copies start end → IsPiece copies end (link_of original start end)
  intact_piece start end link intact = record {
    copy = intact.0;
    there = intact.1;
    cut = near_cut original intact.0 near.undamaged (near.near intact.0 intact.1) start end link;
    content = near.undamaged.content start end link;
    bytes = sym intact.2;
    passes = near.undamaged.passes start end link;
  }

  pub are_copies : AreCopiesOf original copies
  are_copies = record { whole = near.undamaged.whole; one_length = λ copy there. (near.near copy there).same_length }

  -- each copy claims the start of each link
  pub claim_link : (copy : List ℕ) → Contains copies copy → (start end : ℕ) → IsLinkOf original start end → IsClaimedStart copies end start
  claim_link copy there start end link =
      record {
        copy = copy;
        there = there;
        cut = near_cut original copy near.undamaged (near.near copy there) start end link;
        content = near.undamaged.content start end link;
      }

  -- so a link is among the combinations that are tried there where it is among those of what the copies have there
  pub tried_link : (copy : List ℕ) → Contains copies copy → (start end : ℕ) → IsLinkOf original start end → IsAmong original copies start end
      → IsTriedAt copies start end (slice_range original start end)
  tried_link copy there start end link among =
      record {
        claimed = λ claim. among;
        unclaimed = λ content no_claim. absurd (no_claim (claim_link copy there start end link));
        several = λ two are_bytes. absurd (two.differ (claimed_start end start two.one link two.one_there
            ∙ sym (claimed_start end start two.other link two.other_there)));
      }

  pub are_weavable : (copy : List ℕ) → Contains copies copy → AreConsistentFromBelow original copies
      → ((start end : ℕ) → IsLinkOf original start end → IsAmong original copies start end) → AreWeavable original copies
  are_weavable copy there below among =
      record {
        agree = near_agree;
        below = below;
        claim = claim_link copy there;
        passes = near.undamaged.passes;
        among = λ start end link. tried_link copy there start end link (among start end link);
      }

  -- the copy of a piece has the link intact
  pub piece_intact : (start end : ℕ) (bytes : List ℕ) → IsLinkOf original start end → IsPiece copies end (record { start = start; bytes = bytes })
      → IsIntactInSome original copies start end
  piece_intact start end bytes link piece = grind (arith, near_intact)

  -- ---- a division

  module _ (spliced : SplicedValue) (is : IsDivisionOf copies spliced) where
    claim_cut : (start end : ℕ) → IsEnd original end → IsClaimedStart copies end start → FooterGives original start end
    claim_cut start end is_end claim =
        let cut : FooterGives claim.copy start end = claim.cut in
        let at = link_at original near.undamaged.whole end is_end (omega arith) in
        subst (λ s. FooterGives original s end) (sym (claimed_start end at.0 start (record { is_end = is_end; cut = at.1 }) claim)) at.1

    -- at each end some copy claims a start
    tally_at : (end : ℕ) → IsEnd original end → 0 < end → (start : ℕ) × IsClaimedStart copies end start
    tally_at end is_end after =
        let at = link_at original near.undamaged.whole end is_end after in
        (at.0, claim_link is.before.copy is.before.there at.0 end (record { is_end = is_end; cut = at.1 }))

    cuts : (start end : ℕ) (bytes : List ℕ) (standing : Standing) → IsEnd original end → StandsAs copies start end bytes standing → FooterGives original start end
    cuts start end bytes Settled is_end h =
        claim_cut start end is_end (record { copy = h.there.copy; there = h.there.there; cut = h.there.cut; content = h.there.content })
    cuts start end bytes (Woven count) is_end h = elim h [
      | inl w ↦ claim_cut start end is_end w.claim.there
      | inr rest ↦ elim rest [
        | inl w ↦ let content : HasContent 0 end = w.1.content in
            let claim = tally_at end is_end (omega arith) in absurd (w.1.no_claim claim.0 claim.1)
        | inr w ↦ claim_cut start end is_end w.claim
      ]
    ]
    cuts start end bytes (Voted count) is_end h = claim_cut start end is_end (unwoven_weave copies start end h.unwoven).1.claim.there
    cuts start end bytes (Repaired count) is_end h = claim_cut start end is_end h.missed.claim.there
    cuts start end bytes Disputed is_end h = claim_cut start end is_end h.1.claim.there
    cuts start end bytes Missing is_end h = claim_cut start end is_end h.1.claim.there
    cuts start end bytes Undivided is_end h = absurd h

    goes_on : (end : ℕ) → IsEnd original end → 0 < end → IsStop copies end → ⊥
    goes_on end is_end after stop =
        let at = link_at original near.undamaged.whole end is_end after in
        let link : IsLinkOf original at.0 end = record { is_end = is_end; cut = at.1 } in
        stop.no_claim at.0 (record {
          there = claim_link is.before.copy is.before.there at.0 end link;
          others = λ other claim. claimed_start end at.0 other link claim;
        })

    pub divided_links : AreLinkPlaces original (length original) spliced.places spliced.front
    divided_links =
        let long = sym (is.one_length is.before.copy is.before.there) ∙ (near.near is.before.copy is.before.there).same_length in
        link_places original copies cuts (length original) spliced.places spliced.front spliced.payload
        (λ stop is_end after stops same. goes_on stop is_end after stops) last (rw (← long) (division_walk copies spliced is))

    intact_where : (start end : ℕ) (bytes : List ℕ) (standing : Standing) → IsLinkOf original start end → StandsAs copies start end bytes standing
        → standing ≡ Settled → IsIntactInSome original copies start end
    intact_where start end bytes Settled link h e = piece_intact start end bytes link h.there
    intact_where start end bytes standing link h e = absurd (cc)

    pub near_divided : IsNearSplice original copies spliced
    near_divided = record {
      places = record { links = divided_links.links; whole = divided_links.whole };
      settled = λ k d lt. (
        intact_where (get_or spliced.places k d).start (get_or spliced.places k d).end
            (slice_range spliced.payload (get_or spliced.places k d).start (get_or spliced.places k d).end) (get_or spliced.places k d).standing
            (divided_links.each k d lt) (is.stand k d lt),
        λ intact. settled_where original copies near_agree (get_or spliced.places k d).start (get_or spliced.places k d).end
            (slice_range spliced.payload (get_or spliced.places k d).start (get_or spliced.places k d).end) (get_or spliced.places k d).standing
            (get_or spliced.places k d).start (divided_links.each k d lt).is_end
            (intact_piece (get_or spliced.places k d).start (get_or spliced.places k d).end (divided_links.each k d lt) intact) (is.stand k d lt),
      );
      bytes = λ k d lt e. (settled_link original copies near_agree (get_or spliced.places k d).start (get_or spliced.places k d).end
          (slice_range spliced.payload (get_or spliced.places k d).start (get_or spliced.places k d).end) (get_or spliced.places k d).standing
          (divided_links.each k d lt).is_end e (is.stand k d lt)).1;
    }
