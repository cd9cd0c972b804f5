-- The walk over slices that are lost in all copies: where its places lie, and one more of them.
use Rattle.ffv1_splice.proofs.Common.{◌≡◌, ℕ, ◌+◌, ◌-◌, ◌<◌, ◌≤◌, List, [], ◌∷◌, ◌++◌, length, take, refl, sym, ap, ◌∙◌, subst, arith, ◌⊎◌, All, slice_range, drop-append_seam, flat_map-append, append_assoc, append-nil, length-append, length-take-le, take-append-le, All-nil, All-cons, All-append, All-weaker, IsOnly, IsOfNone, HasContent, IsPiece, IsClaimedStart, PieceFrom, IsPieceFrom, IsShortest, Tallies, pieces_tally, claimed_tally, Pieces, Claimed, IsPlaced, versions_at, StandsAs, RiseFrom, IsSettledUp, IsWalkUp, IsClaimedEnd, IsLostUpTo, IsCrossed, Crossing, AreCrossings, IsWalkAcross, crossing_places, Standing, Settled, Place}
use Rattle.ffv1_splice.specs.declared.tally.Pieces.TheVariants as pieces
use Rattle.ffv1_splice.specs.declared.tally.Claimed.TheVariants as starts
use Rattle.ffv1_splice.specs.declared.crossing.TheConstants.{MOST_CROSSED}
use Rattle.ffv1_splice.proofs.Narrowed.{piece_in}
use Rattle.ffv1_splice.proofs.PlaceSteps.{no_claim}
use Rattle.ffv1_splice.proofs.PlaceLists.{start_below}
use Rattle.ffv1_splice.proofs.SettlingSteps.{range_before, take_earlier, here_written, up_upright, up_kept}
use Rattle.ffv1_splice.proofs.SpliceSteps.{length-written}

-- ---- lists

pub rise_append : (start middle top : ℕ) (places others : List Place) → RiseFrom start places middle → RiseFrom middle others top
    → RiseFrom start (places ++ others) top
rise_append start middle top [] others rise more = subst (λ n. RiseFrom n others top) (sym rise) more
rise_append start middle top (place ∷ places) others rise more = (rise.0, rise_append place.end middle top places others rise.1 more)

crossing_places-append : (crossings : List Crossing) (crossing : Crossing) → crossing_places (crossings ++ crossing ∷ []) ≡ crossing_places crossings ++ (crossing.over ∷ crossing.settled)
crossing_places-append crossings crossing = grind (arith, flat_map-append, append-nil)

-- ---- a lost slice

module _ (copies : List (List ℕ)) (reach : ℕ) where
  pub lost_where_claimed : (claim : Claimed) → Tallies (IsClaimedEnd copies reach) (claimed_tally claim) → ((end : ℕ) → claim ≡ starts.One end → ⊥)
      → (end : ℕ) → IsLostUpTo copies reach end → ⊥
  lost_where_claimed claim are none end lost = no_claim (IsClaimedEnd copies reach) claim are none end lost.end'

  module _ (claimed : ℕ) (only : IsOnly (IsClaimedEnd copies reach) claimed) where
    lost_there : (end : ℕ) → IsLostUpTo copies reach end → IsLostUpTo copies reach claimed
    lost_there end lost = subst (IsLostUpTo copies reach) (only.others end lost.end'.there) lost

    pub lost_where_no_piece : (claim : Pieces) → Tallies (IsPiece copies claimed) (pieces_tally claim) → (claim ≡ pieces.None → ⊥)
        → (end : ℕ) → IsLostUpTo copies reach end → ⊥
    lost_where_no_piece pieces.None are some end lost = some refl
    lost_where_no_piece (pieces.One start bytes) are some end lost = (lost_there end lost).none _ are.there
    lost_where_no_piece pieces.Two are some end lost = (lost_there end lost).none _ are.one_there

    pub lost_where_claim : (claim : Claimed) → Tallies (IsClaimedStart copies claimed) (claimed_tally claim) → ((start : ℕ) → claim ≡ starts.One start → ⊥)
        → (end : ℕ) → IsLostUpTo copies reach end → ⊥
    lost_where_claim claim are none end lost = no_claim (IsClaimedStart copies claimed) claim are none 0 (lost_there end lost).start

    pub lost_where_borne_out : IsOfNone (IsPieceFrom copies reach claimed) → (end : ℕ) → IsLostUpTo copies reach end → ⊥
    lost_where_borne_out none end lost = let next = (lost_there end lost).next in none next.0 next.1

    -- a piece that begins with the copies would end at the end that is claimed
    none_begins : IsOfNone (IsPiece copies claimed) → IsOfNone (IsPieceFrom copies reach 0)
    none_begins none piece from =
        let there = from.there in
        let claim : IsClaimedStart copies piece.end 0 = record { copy = there.copy; there = there.there; cut = there.cut; content = there.content } in
        let ends : piece.end ≡ claimed = only.others piece.end (record { claim = claim; within = from.within }) in
        none (record { start = 0; bytes = piece.bytes }) (subst (λ end. IsPiece copies end (record { start = 0; bytes = piece.bytes })) ends there)

    pub is_lost : (start : ℕ) (piece : PieceFrom) → IsOnly (IsClaimedStart copies claimed) start → IsOfNone (IsPiece copies claimed)
        → IsShortest copies reach claimed piece → IsLostUpTo copies reach claimed
    is_lost start piece claim none next =
        let first : start ≡ 0 = sym (claim.others 0 only.there.claim) in
        record {
          lost = none_begins none;
          end' = only;
          start = subst (IsOnly (IsClaimedStart copies claimed)) first claim;
          none = none;
          next = (piece, next.there);
        }

pub lost_content : (copies : List (List ℕ)) (reach end : ℕ) → IsLostUpTo copies reach end → 8 < end
lost_content copies reach end h = let content : HasContent 0 end = h.end'.there.claim.content in omega arith

module _ (copies : List (List ℕ)) (bound : ℕ) where
  pub crossed_rising : (payload : List ℕ) (place : Place) → IsCrossed copies bound payload place → place.start < place.end
  crossed_rising payload place h = grind (arith, lost_content)

  pub crossed_within : (payload : List ℕ) (place : Place) → IsCrossed copies bound payload place → place.end ≤ bound
  crossed_within payload place h = grind (arith, lost_content)

  -- no piece ends there, so it is not settled
  pub crossed_unsettled : (payload : List ℕ) (place : Place) → IsCrossed copies bound payload place → place.standing ≡ Settled → ⊥
  crossed_unsettled payload place h settled =
      let bytes : List ℕ = slice_range payload place.start place.end in
      let stands : StandsAs (versions_at copies place.start bound) 0 h.size bytes Settled = grind (arith, versions_at) in
      h.lost.none (record { start = 0; bytes = bytes }) stands.there

  pub crossed_no_piece : (payload : List ℕ) (place : Place) → IsCrossed copies bound payload place → (bytes : List ℕ)
      → IsPiece copies place.end (record { start = place.start; bytes = bytes }) → ⊥
  crossed_no_piece payload place h bytes piece =
      let within = crossed_within payload place h in
      let ends = h.ends in
      let here : place.start ≡ place.start + 0 = omega arith in
      h.lost.none (record { start = 0; bytes = bytes }) (piece_in place.start bound copies h.size (record { start = 0; bytes = bytes }) (omega arith)
      (rw (← here) (rw (← ends) piece)))

  crossed_kept : (a b : List ℕ) (place : Place) → slice_range a place.start place.end ≡ slice_range b place.start place.end
      → IsCrossed copies bound a place → IsCrossed copies bound b place
  crossed_kept a b place same h =
      record {
        size = h.size;
        ends = h.ends;
        lost = h.lost;
        stands = subst (λ bytes. StandsAs (versions_at copies place.start bound) 0 h.size bytes place.standing) same h.stands;
      }

  pub walk_kept : (a b : List ℕ) (from : ℕ) (places : List Place) (top : ℕ) → take top a ≡ take top b → IsWalkUp copies bound a from places top
      → IsWalkUp copies bound b from places top
  walk_kept a b from places top same h =
      record { rise = h.rise; settled = up_kept copies bound a b places from top h.rise h.settled same; stop = h.stop }

  walk_order : (payload : List ℕ) (from : ℕ) (places : List Place) (top : ℕ) → IsWalkUp copies bound payload from places top → from ≤ top
  walk_order payload from places top h = start_below from places top h.rise (up_upright copies bound payload places h.settled)

  -- ---- crossings

  -- what is so of each place over a lost slice, and of each settled place, is so of all
  pub all_crossings : (P : Place → Type 0) (payload : List ℕ) → ((place : Place) → IsCrossed copies bound payload place → P place)
      → ((place : Place) → IsSettledUp copies bound payload place → P place) → (start : ℕ) (crossings : List Crossing) (top : ℕ)
      → AreCrossings copies bound payload start crossings top → All P (crossing_places crossings)
  all_crossings P payload crossed settled start [] top are = All-nil P
  all_crossings P payload crossed settled start (crossing ∷ crossings) top are =
      All-append P (crossing.over ∷ crossing.settled) (crossing_places crossings)
      (All-cons P crossing.over crossing.settled (crossed crossing.over are.1)
      (All-weaker (IsSettledUp copies bound payload) P settled crossing.settled are.3.settled))
      (all_crossings P payload crossed settled are.2 crossings top are.4)

  pub crossings_rise : (payload : List ℕ) (start : ℕ) (crossings : List Crossing) (top : ℕ) → AreCrossings copies bound payload start crossings top
      → RiseFrom start (crossing_places crossings) top
  crossings_rise payload start [] top are = are
  crossings_rise payload start (crossing ∷ crossings) top are = grind (arith, rise_append, crossings_rise payload are.2 crossings top are.4)

  pub crossings_order : (payload : List ℕ) (start : ℕ) (crossings : List Crossing) (top : ℕ) → AreCrossings copies bound payload start crossings top → start ≤ top
  crossings_order payload start [] top are = omega (arith, are)
  crossings_order payload start (crossing ∷ crossings) top are =
      let rises = crossed_rising payload crossing.over are.1 in
      let on = walk_order payload crossing.over.end crossing.settled are.2 are.3 in
      let rest = crossings_order payload are.2 crossings top are.4 in
      omega arith

  pub crossings_kept : (a b : List ℕ) (start : ℕ) (crossings : List Crossing) (top : ℕ) → take top a ≡ take top b → AreCrossings copies bound a start crossings top
      → AreCrossings copies bound b start crossings top
  crossings_kept a b start [] top same are = are
  crossings_kept a b start (crossing ∷ crossings) top same are =
      let on = walk_order a crossing.over.end crossing.settled are.2 are.3 in
      let rest = crossings_order a are.2 crossings top are.4 in (
        are.0,
        crossed_kept a b crossing.over (range_before a b top crossing.over.start crossing.over.end (omega arith) same) are.1,
        are.2,
        walk_kept a b crossing.over.end crossing.settled are.2 (take_earlier a b are.2 top rest same) are.3,
        crossings_kept a b are.2 crossings top same are.4,
      )

  crossings_more : (payload : List ℕ) (start : ℕ) (crossings : List Crossing) (middle : ℕ) (crossing : Crossing) (top : ℕ) → AreCrossings copies bound payload start crossings middle
      → crossing.over.start ≡ middle → IsCrossed copies bound payload crossing.over → IsWalkUp copies bound payload crossing.over.end crossing.settled top
      → AreCrossings copies bound payload start (crossings ++ crossing ∷ []) top
  crossings_more payload start [] middle crossing top are starts crossed walk = (starts ∙ sym are, crossed, top, walk, refl)
  crossings_more payload start (first ∷ crossings) middle crossing top are starts crossed walk =
      (are.0, are.1, are.2, are.3, crossings_more payload are.2 crossings middle crossing top are.4 starts crossed walk)

-- A slice that is lost, and what is woven there written over the bytes from its start on.
pub crossed_place : (copies versions : List (List ℕ)) (start bound size : ℕ) (payload old new after : List ℕ) (standing : Standing)
    → versions ≡ versions_at copies start bound → start ≤ length payload → size ≤ length old → IsLostUpTo (versions_at copies start bound) (bound - start) size
    → IsPlaced versions size old new (record { start = 0; end = size; standing = standing })
    → IsCrossed copies bound (take start payload ++ (new ++ after)) (record { start = start; end = start + size; standing = standing })
crossed_place copies versions start bound size payload old new after standing are within room lost placed =
    let bytes : List ℕ = placed.bytes in
    let front : length (take start payload) ≡ start = length-take-le start payload within in
    let long : start + size - start ≡ size = omega arith in
    let kept : length new ≡ length old = ap length placed.written' ∙ length-written old 0 bytes (omega (arith, placed.size)) in
    let first : take (size - 0) new ≡ bytes = cc (here_written old 0 size bytes placed.size room) in
    let none : size - 0 ≡ size = omega arith in
    let here : slice_range (take start payload ++ (new ++ after)) start (start + size) ≡ bytes = grind (arith, drop-append_seam, take-append-le) in
    record {
      size = size;
      ends = refl;
      lost = lost;
      stands = subst (λ z. StandsAs (versions_at copies start bound) 0 size z standing) (sym here)
          (subst (λ vs. StandsAs vs 0 size bytes standing) are placed.stands);
    }

-- ---- the walk so far

-- places up to a start, over so many lost slices
pub record IsWalkSoFar (copies : List (List ℕ)) (bound : ℕ) (payload : List ℕ) (places : List Place) (start crossed : ℕ) : Type 0 where
  pub below : List Place
  pub crossings : List Crossing
  pub floor : ℕ
  pub are_places : places ≡ below ++ crossing_places crossings
  pub up : IsWalkUp copies bound payload 0 below floor
  pub are : AreCrossings copies bound payload floor crossings start
  pub count : length crossings ≡ crossed

module _ (copies : List (List ℕ)) (bound : ℕ) where
  -- it stays so where the bytes before its start stay
  pub so_far_kept : (a b : List ℕ) (places : List Place) (start crossed : ℕ) → take start a ≡ take start b
      → IsWalkSoFar copies bound a places start crossed → IsWalkSoFar copies bound b places start crossed
  so_far_kept a b places start crossed same h =
      record {
        below = h.below;
        crossings = h.crossings;
        floor = h.floor;
        are_places = h.are_places;
        up = walk_kept copies bound a b 0 h.below h.floor (take_earlier a b h.floor start (crossings_order copies bound a h.floor h.crossings start h.are) same) h.up;
        are = crossings_kept copies bound a b h.floor h.crossings start same h.are;
        count = h.count;
      }

  -- one more lost slice, and what is settled after it
  pub walk_more : (a b c : List ℕ) (places : List Place) (start crossed : ℕ) (crossing : Crossing) (top : ℕ) → IsWalkSoFar copies bound a places start crossed
      → crossing.over.start ≡ start → IsCrossed copies bound b crossing.over → take start b ≡ take start a → take crossing.over.end c ≡ take crossing.over.end b
      → IsWalkUp copies bound c crossing.over.end crossing.settled top
      → IsWalkSoFar copies bound c (places ++ (crossing.over ∷ crossing.settled)) top (crossed + 1)
  walk_more a b c places start crossed crossing top far starts over first second walk =
      let same : take start a ≡ take start c = sym (take_earlier c b start crossing.over.end (omega arith) second ∙ first) in
      let h = so_far_kept a c places start crossed same far in
      record {
        below = h.below;
        crossings = h.crossings ++ crossing ∷ [];
        floor = h.floor;
        are_places = grind (arith, append_assoc, crossing_places, crossing_places-append);
        up = h.up;
        are = grind (arith, crossings_more, crossed_kept, range_before);
        count = length-append h.crossings (crossing ∷ []) ∙ ap (λ n. n + 1) h.count;
      }

  -- the walk where it stops
  pub walk_stopped : (payload : List ℕ) (places : List Place) (start crossed : ℕ) → IsWalkSoFar copies bound payload places start crossed
      → crossed ≤ MOST_CROSSED
      → (crossed ≡ MOST_CROSSED) ⊎ ((end : ℕ) → IsLostUpTo (versions_at copies start bound) (bound - start) end → ⊥)
      → (below : List Place) × (crossings : List Crossing) × (floor : ℕ) × (places ≡ below ++ crossing_places crossings) × IsWalkUp copies bound payload 0 below floor
      × IsWalkAcross copies bound payload floor crossings start
  walk_stopped payload places start crossed h few stop = grind arith
