use Rattle.ffv1_splice.proofs.Common.{◌≡◌, ◌+◌, ℕ, List, length, subst, IsOnly, IsPiece, IsClaimedStart, PieceFrom, IsClaimedEnd, Tallies, pieces_tally, claimed_tally, Claimed, One, values_of}
use Rattle.ffv1_splice.proofs.Crossings.{lost_where_claimed, lost_where_no_piece, lost_where_claim, lost_where_borne_out, is_lost}
use Rattle.ffv1_splice.proofs.crossing.lost_up_to.Goals as goal

-- the one end that is claimed
only_end : (copies : List (List ℕ)) (reach : ℕ) (claim : Claimed) (end : ℕ) → claim ≡ One end → Tallies (IsClaimedEnd copies reach) (claimed_tally claim)
    → IsOnly (IsClaimedEnd copies reach) end
only_end copies reach claim end is tallies = subst (λ ends. Tallies (IsClaimedEnd copies reach) (claimed_tally ends)) is tallies

pub returns-in_default : goal.returns-in_default
returns-in_default c =
    lost_where_claimed (values_of c.args.copies.now) c.args.reach c.claimed_ends.result c.claimed_ends.ensures c.in_default.not-One

pub returns-in_default-pieces : goal.returns-in_default-pieces
returns-in_default-pieces c =
    lost_where_no_piece (values_of c.args.copies.now) c.args.reach c.in-One.end
    (only_end (values_of c.args.copies.now) c.args.reach _ c.in-One.end c.in-One.is c.claimed_ends.ensures) _ c.tally_at-starts.ensures.pieces c.in_default-pieces.not-None

pub returns-in_default-starts : goal.returns-in_default-starts
returns-in_default-starts c =
    lost_where_claim (values_of c.args.copies.now) c.args.reach c.in-One.end
    (only_end (values_of c.args.copies.now) c.args.reach _ c.in-One.end c.in-One.is c.claimed_ends.ensures) _ c.tally_at-starts.ensures.starts c.in_default-starts.not-One

pub returns-in-Some : goal.returns-in-Some
returns-in-Some c =
    let copies : List (List ℕ) = values_of c.args.copies.now in
    let only = only_end copies c.args.reach _ c.in-One.end c.in-One.is c.claimed_ends.ensures in
    let next : PieceFrom = record { end = c.in-One.end + length c.in-Some.field-0.now; bytes = c.in-Some.field-0.now } in
    is_lost copies c.args.reach c.in-One.end only c.in-One-starts.field-0 next
    (subst (λ claim. Tallies (IsClaimedStart copies c.in-One.end) (claimed_tally claim)) c.in-One-starts.is c.tally_at-starts.ensures.starts)
    (subst (λ claim. Tallies (IsPiece copies c.in-One.end) (pieces_tally claim)) c.in-None.is c.tally_at-starts.ensures.pieces)
    c.in-Some.ensures

pub returns-in-None-first_from : goal.returns-in-None-first_from
returns-in-None-first_from c =
    lost_where_borne_out (values_of c.args.copies.now) c.args.reach c.in-One.end
    (only_end (values_of c.args.copies.now) c.args.reach _ c.in-One.end c.in-One.is c.claimed_ends.ensures) c.in-None-first_from.ensures
