use Rattle.ffv1_splice.proofs.Common.{map}
use Rattle.ffv1_splice.proofs.tally.least_at.Given as goal
use Rattle.ffv1_splice.proofs.LeastSteps.{IsLeastSoFar}

abbrev pub invariant-loop-copy : goal.invariant-loop-copy
invariant-loop-copy l = IsLeastSoFar (map (λ copy. copy.now) l.copies) l.copy-index l.start l.end l.least
