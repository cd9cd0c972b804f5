use Rattle.std.specs.Prelude.{take, map}
use Rattle.ffv1_splice.proofs.Common.{IsClaimedEnd, Tallies, claimed_tally}
use Rattle.ffv1_splice.proofs.crossing.claimed_ends.Given as goal

-- The ends that the copies so far claim.
abbrev pub invariant-loop-copy : goal.invariant-loop-copy
invariant-loop-copy l = Tallies (IsClaimedEnd (take l.copy-index (map (λ copy. copy.now) l.copies)) l.reach) (claimed_tally l.ends)
