use Rattle.std.specs.Prelude.{take, map}
use Rattle.ffv1_splice.proofs.Common.{IsPiece, IsClaimedStart, Tallies, pieces_tally, claimed_tally}
use Rattle.ffv1_splice.proofs.tally.tally_at.Given as goal

-- What was counted are the pieces and claimed starts of the copies so far.
abbrev pub invariant-loop-copy : goal.invariant-loop-copy
invariant-loop-copy l = record {
  pieces : Tallies (IsPiece (take l.copy-index (map (λ copy. copy.now) l.copies)) l.end) (pieces_tally l.pieces);
  starts : Tallies (IsClaimedStart (take l.copy-index (map (λ copy. copy.now) l.copies)) l.end) (claimed_tally l.starts);
}
