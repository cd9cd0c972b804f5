use Rattle.ffv1_splice.proofs.Common.{◌+◌, ◌-◌}
use Rattle.ffv1_splice.proofs.ClaimSteps.{AreUnclaimed}
use Rattle.ffv1_splice.proofs.shortest.first_claim.Given as goal

abbrev pub invariant-loop-end : goal.invariant-loop-end
invariant-loop-end l = AreUnclaimed l.copy l.start l.from l.end

abbrev pub decreases-loop-end : goal.decreases-loop-end
decreases-loop-end l = l.last + 1 - l.end
