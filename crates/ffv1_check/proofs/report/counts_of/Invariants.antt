use Rattle.ffv1_check.proofs.CountSteps.{AreCountedTo}
use Rattle.ffv1_check.proofs.report.counts_of.Given as goal

-- those so far are counted
abbrev pub invariant-loop-index : goal.invariant-loop-index
invariant-loop-index l = AreCountedTo l.index l.tracks l.states l.counts.items
