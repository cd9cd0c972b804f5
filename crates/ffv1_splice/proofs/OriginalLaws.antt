-- The splice of copies of which no piece contradicts an original.
use Rattle.ffv1_slice.proofs.Links.{end_within}
use Rattle.ffv1_splice.proofs.Common.{◌≡◌, ℕ, ◌+◌, ◌-◌, ◌<◌, ◌≤◌, List, [], ◌∷◌, length, get_or, sym, ap, ◌∙◌, subst, arith, inl, inr, All, slice_range, All-nil, All-cons, All-head, All-tail, All-append, All-weaker, cases_lt, FooterGives, IsEnd, IsLinkOf, LinkValue, link_of, last, before, HasContent, IsClaimedStart, PieceFrom, versions_at, SplicedValue, LieFrom, RiseFrom, IsSettledDown, IsSettledUp, IsCrossed, Crossing, AreCrossings, crossing_places, IsSpliceOf, moved_by, AreCopiesOf, AreConsistentWith, AreConsistentFromBelow, HaveEachLink, IsSplicedOriginal, OriginalIsSpliced, SettledIsOriginal, IsItsLink, SettledWalksAreOriginal, IsLinkIfSettled, WalkAcrossIsOriginal, Settled, Place}
use Rattle.ffv1_splice.proofs.BoundSteps.{bound_within}
use Rattle.ffv1_splice.proofs.Walks.{front_below}
use Rattle.ffv1_splice.proofs.DividedLinks.{link_at, AreLinkPlaces, agree_one}
use Rattle.ffv1_splice.proofs.NarrowedOriginal.{next_end, link_out, links_of_places}
use Rattle.ffv1_splice.proofs.Narrowed.{claim_in}
use Rattle.ffv1_splice.proofs.Crossings.{crossed_rising, crossed_within, crossed_unsettled}
use Rattle.ffv1_splice.proofs.PlaceLists.{no_undivided, whole_front}
use Rattle.ffv1_splice.proofs.SplicePlaces.{all_places, copy_at_hand, places_lie, lower, lower_upright, lower_within, start_within, hole_length, hole_rising, hole_upright}
use Rattle.ffv1_splice.proofs.StandingPlaces.{settled_piece, hole_within}
use Rattle.ffv1_splice.proofs.SameBytes.{IsSameAt, same_by_parts}

-- ---- settled places

pub settled_is_original : SettledIsOriginal
settled_is_original original copies spliced place agree is there settled is_end =
    let claim = agree place.end (link_of spliced.payload place.start place.end) is_end (settled_piece copies spliced is place there settled) in
    (claim.0, ap (λ (piece : LinkValue). piece.bytes) claim.1)

-- a link begins at each end before the last
link_from : (original : List ℕ) (start : ℕ) → IsEnd original start → start < length original → (end : ℕ) × IsLinkOf original start end
link_from original start last below = absurd (omega arith)
link_from original start (before {q = q} is_end cut) below = (q, record { is_end = is_end; cut = cut })

-- The places of a walk are links of the original, and it stops at an end of the original.
pub record AreWalkLinks (original : List ℕ) (spliced : SplicedValue) (places : List Place) (stop : ℕ) : Type 0 where
  pub links : All (IsItsLink original spliced) places
  pub is_end : IsEnd original stop

module _ (original : List ℕ) (copies : List (List ℕ)) (spliced : SplicedValue) where
  links_down : AreConsistentWith original copies → (end : ℕ) (places : List Place) (front : ℕ) → IsEnd original end → LieFrom end places front
      → All (IsSettledDown copies spliced.payload) places → AreWalkLinks original spliced places front
  links_down agree end [] front is_end lie settled = record { links = All-nil (IsItsLink original spliced); is_end = subst (IsEnd original) lie is_end }
  links_down agree end (place ∷ places) front is_end lie settled =
      let here = All-head (IsSettledDown copies spliced.payload) place places settled in
      let claim = agree place.end (link_of spliced.payload place.start place.end) (subst (IsEnd original) (sym lie.0) is_end) here.only.there in
      let rest = links_down agree place.start places front (before claim.0.is_end claim.0.cut) lie.1
      (All-tail (IsSettledDown copies spliced.payload) place places settled) in
      grind (arith, All-cons)

  module _ (agree : AreConsistentFromBelow original copies) (bound : ℕ) (within : bound ≤ length original) where
    link_up : (place : Place) → IsEnd original place.start → IsSettledUp copies bound spliced.payload place → IsItsLink original spliced place
    link_up place is_end settled =
        let piece : PieceFrom = record { end = place.end; bytes = slice_range spliced.payload place.start place.end } in
        let content : HasContent place.start place.end = settled.only.there.content in
        let inside = settled.first.there.within in
        let link = link_from original place.start is_end (omega arith) in
        let same : piece ≡ record { end = link.0; bytes = slice_range original place.start link.0 } =
        agree place.start link.0 piece link.1 (omega arith) settled.only.there in
        let ends : place.end ≡ link.0 = ap (λ (piece : PieceFrom). piece.end) same in
        grind arith

    links_up : (start : ℕ) (places : List Place) (top : ℕ) → IsEnd original start → RiseFrom start places top
        → All (IsSettledUp copies bound spliced.payload) places → AreWalkLinks original spliced places top
    links_up start [] top is_end rise settled = record { links = All-nil (IsItsLink original spliced); is_end = subst (IsEnd original) rise is_end }
    links_up start (place ∷ places) top is_end rise settled =
        let here = link_up place (subst (IsEnd original) (sym rise.0) is_end) (All-head (IsSettledUp copies bound spliced.payload) place places settled) in
        let rest = links_up place.end places top here.link.is_end rise.1 (All-tail (IsSettledUp copies bound spliced.payload) place places settled) in
        record { links = All-cons (IsItsLink original spliced) place places here rest.links; is_end = rest.is_end }

-- The places of crossings are links of the original, and they stop at an end of the original.
pub record AreLegLinks (original : List ℕ) (spliced : SplicedValue) (crossings : List Crossing) (stop : ℕ) : Type 0 where
  pub links : All (IsLinkIfSettled original spliced) (crossing_places crossings)
  pub is_end : IsEnd original stop

-- ---- both walks

module _ (original : List ℕ) (copies : List (List ℕ)) (spliced : SplicedValue) (is : IsSpliceOf copies spliced) (of : AreCopiesOf original copies)
    (agree : AreConsistentWith original copies) where
  pub as_long : length spliced.payload ≡ length original
  as_long = let copy = copy_at_hand copies spliced is in sym (is.one_length copy.0 copy.1) ∙ of.one_length copy.0 copy.1

  pub above_links : AreWalkLinks original spliced is.above is.end
  above_links =
      links_down original copies spliced agree (length spliced.payload) is.above is.end (subst (IsEnd original) (sym as_long) last) is.down.lie is.down.settled

  bound_inside : is.bound ≤ length original
  bound_inside =
      let low = bound_within copies is.end is.bound is.room in
      let inside = end_within original is.end above_links.is_end in
      omega arith

  pub below_links : AreConsistentFromBelow original copies → AreWalkLinks original spliced is.below is.floor
  below_links below =
      links_up original copies spliced below is.bound bound_inside 0 is.below is.floor of.whole is.up.rise is.up.settled

  -- the bound is an end of the original
  bound_end : IsEnd original is.bound
  bound_end = elim is.room [
    | inl none ↦ subst (IsEnd original) (sym none.1) above_links.is_end
    | inr some ↦
        let link = (agree is.end some.0 above_links.is_end some.1).0 in
        subst (IsEnd original) some.2 (before link.is_end link.cut)
  ]

  -- ---- over lost slices

  module _ (from_below : AreConsistentFromBelow original copies)
      (claim : (start end : ℕ) → IsLinkOf original start end → IsClaimedStart copies end start) where
    -- the end that alone is claimed is the link's
    crossed_link : (place : Place) → IsEnd original place.start → IsCrossed copies is.bound spliced.payload place
        → IsLinkOf original place.start place.end
    crossed_link place is_end crossed =
        let rises = crossed_rising copies is.bound spliced.payload place crossed in
        let within = crossed_within copies is.bound spliced.payload place crossed in
        let next = next_end original place.start is.bound bound_end is_end (omega arith) in
        let cut : FooterGives original place.start next.0 = next.1.cut in
        let inside : next.0 ≤ is.bound = next.2 in
        let there : next.0 ≡ place.start + (next.0 - place.start) = omega arith in
        let here : place.start ≡ place.start + 0 = omega arith in
        let footer : IsClaimedStart (versions_at copies place.start is.bound) (next.0 - place.start) 0 =
        claim_in place.start is.bound copies (next.0 - place.start) 0 (omega arith) (rw (← here) (rw (← there) (claim place.start next.0 next.1))) in
        let size : next.0 - place.start ≡ crossed.size =
        crossed.lost.end'.others (next.0 - place.start) (record { claim = footer; within = omega arith }) in
        let ends : next.0 ≡ place.end = omega (arith, crossed.ends) in
        rw (← ends) next.1

    links_across : (start : ℕ) (crossings : List Crossing) (top : ℕ) → IsEnd original start → AreCrossings copies is.bound spliced.payload start crossings top
        → AreLegLinks original spliced crossings top
    links_across start [] top is_end are = grind (arith, All-nil)
    links_across start (crossing ∷ crossings) top is_end are =
        let link = crossed_link crossing.over (subst (IsEnd original) (sym are.0) is_end) are.1 in
        let up = links_up original copies spliced from_below is.bound bound_inside crossing.over.end crossing.settled are.2 link.is_end are.3.rise are.3.settled in
        let rest = links_across are.2 crossings top up.is_end are.4 in
        record {
          links = All-append (IsLinkIfSettled original spliced) (crossing.over ∷ crossing.settled) (crossing_places crossings)
              (All-cons (IsLinkIfSettled original spliced) crossing.over crossing.settled
              (record { link = link; settled = λ settled. absurd (crossed_unsettled copies is.bound spliced.payload crossing.over are.1 settled) })
              (All-weaker (IsItsLink original spliced) (IsLinkIfSettled original spliced)
              (λ place its. record { link = its.link; settled = λ _. its }) crossing.settled up.links)) rest.links;
          is_end = rest.is_end;
        }

    pub across_links : AreLegLinks original spliced is.crossings is.start
    across_links = links_across is.floor is.crossings is.start (below_links from_below).is_end is.across.are

pub walk_across_is_original : WalkAcrossIsOriginal
walk_across_is_original original copies spliced of agree below claim is = (across_links original copies spliced is of agree below claim).links

pub settled_walks_are_original : SettledWalksAreOriginal
settled_walks_are_original original copies spliced of agree below is =
    ((above_links original copies spliced is of agree).links, (below_links original copies spliced is of agree below).links)

-- ---- all places

-- places that are all links, down to the first byte
has_links : (original : List ℕ) (copies : List (List ℕ)) (spliced : SplicedValue) → IsSpliceOf copies spliced → length spliced.payload ≡ length original
    → spliced.front ≡ 0 → All (λ place. IsLinkOf original place.start place.end) spliced.places
    → AreLinkPlaces original (length original) spliced.places spliced.front
has_links original copies spliced is long whole links =
    record {
      links = links_of_places original (length original) spliced.places (rw (← whole) (rw (← long) (places_lie copies spliced is))) links;
      whole = whole;
      each = links;
    }

-- They are where the walks agree with the original, the places of the crossings are its links, and the hole's places are links of what it has
-- there.
pub joined_links : (original : List ℕ) (copies : List (List ℕ)) (spliced : SplicedValue) (is : IsSpliceOf copies spliced) → AreCopiesOf original copies
    → AreConsistentWith original copies → AreConsistentFromBelow original copies → All (IsLinkIfSettled original spliced) (crossing_places is.crossings)
    → All (λ place. IsLinkOf (slice_range original is.start is.end) place.start place.end) is.hole.places → is.hole.front ≡ 0
    → AreLinkPlaces original (length original) spliced.places spliced.front
joined_links original copies spliced is of agree from_below across hole none =
    let above = above_links original copies spliced is of agree in
    let below = below_links original copies spliced is of agree from_below in
    has_links original copies spliced is (as_long original copies spliced is of agree) (is.front ∙ whole_front is.start is.hole.front none)
    (all_places copies spliced is (λ place. IsLinkOf original place.start place.end)
    (All-weaker (IsItsLink original spliced) (λ place. IsLinkOf original place.start place.end) (λ place its. its.link) is.above above.links)
    (λ k d lt. link_out is.start is.end original (start_within copies spliced is) above.is_end (get_or is.hole.places k d).start
    (get_or is.hole.places k d).end (hole k d lt)) (no_undivided (λ place. IsLinkOf original place.start place.end) is.start is.hole.front none)
    (All-append (λ place. IsLinkOf original place.start place.end) is.below (crossing_places is.crossings)
    (All-weaker (IsItsLink original spliced) (λ place. IsLinkOf original place.start place.end) (λ place its. its.link) is.below below.links)
    (All-weaker (IsLinkIfSettled original spliced) (λ place. IsLinkOf original place.start place.end) (λ place its. its.link) (crossing_places is.crossings) across)))

-- ---- copies that have each link

module _ (original : List ℕ) (copies : List (List ℕ)) (of : AreCopiesOf original copies) (agree : AreConsistentWith original copies)
    (have : HaveEachLink original copies) (spliced : SplicedValue) (is : IsSpliceOf copies spliced) where
  walk : AreWalkLinks original spliced is.above is.end
  walk = above_links original copies spliced is of agree

  -- the walk down goes on at each end after the first byte
  to_first : is.end ≡ 0
  to_first =
      elim (cases_lt 0 is.end) [
        | inl after ↦
            let link = link_at original of.whole is.end walk.is_end after in
            let piece = have link.0 is.end (record { is_end = walk.is_end; cut = link.1 }) in
            absurd (is.down.stop (link_of original link.0 is.end) (record {
              there = piece;
              others = λ other claim. agree_one original copies agree is.end other (link_of original link.0 is.end) walk.is_end claim piece;
            }))
        | inr none ↦ omega arith
      ]

  no_hole_front : is.hole.front ≡ 0
  no_hole_front = grind (arith, hole_length, to_first, front_below, hole_upright)

  -- so all places are above the hole
  none_in_hole : (P : Place → Type 0) → All P is.hole.places
  none_in_hole P k d lt =
      let first = to_first in
      let within = hole_within copies spliced is k d lt in
      let order = hole_rising copies spliced is k d lt in
      absurd (omega arith)

  none_below : (P : Place → Type 0) → All P (lower copies spliced is)
  none_below P k d lt =
      let first = to_first in
      let within = lower_within copies spliced is k d lt in
      let order = lower_upright copies spliced is k d lt in
      absurd (omega arith)

  all_above : (P : Place → Type 0) → All P is.above → All P spliced.places
  all_above P above =
      all_places copies spliced is P above (none_in_hole (λ place. P (moved_by is.start place))) (no_undivided P is.start is.hole.front no_hole_front)
      (none_below P)

  same_hole : is.hole.payload ≡ slice_range original is.start is.end
  same_hole = grind (arith, to_first)

  pub is_original : IsSplicedOriginal original spliced
  is_original =
      let links = has_links original copies spliced is (as_long original copies spliced is of agree)
      (is.front ∙ whole_front is.start is.hole.front no_hole_front)
      (all_above (λ place. IsLinkOf original place.start place.end)
      (All-weaker (IsItsLink original spliced) (λ place. IsLinkOf original place.start place.end) (λ place its. its.link) is.above walk.links)) in
      record {
        places = record { links = links.links; whole = links.whole };
        settled = all_above (λ place. place.standing ≡ Settled)
            (All-weaker (IsSettledDown copies spliced.payload) (λ place. place.standing ≡ Settled) (λ place settled. settled.standing) is.above is.down.settled);
        payload = same_by_parts copies spliced is original (as_long original copies spliced is of agree)
            (All-weaker (IsItsLink original spliced) (IsSameAt spliced.payload original) (λ place its. its.bytes) is.above walk.links)
            (none_below (IsSameAt spliced.payload original)) same_hole;
      }

pub original_is_spliced : OriginalIsSpliced
original_is_spliced original copies spliced of agree have is = is_original original copies of agree have spliced is
