use Rattle.ffv1_splice.proofs.Common.{◌+◌, ◌-◌, ◌<◌}
use Rattle.ffv1_splice.proofs.ShortestSteps.{AreJudged}
use Rattle.ffv1_splice.proofs.shortest.first_end.Given as goal

abbrev pub invariant-loop-end : goal.invariant-loop-end
invariant-loop-end l = (l.from < l.next) × AreJudged l.copy l.start l.judged l.next l.left

abbrev pub decreases-loop-end : goal.decreases-loop-end
decreases-loop-end l = l.last + 1 - l.next
