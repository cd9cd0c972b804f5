use Rattle.ffv1_holding.proofs.Interleaves.{IsInterleaving}
use Rattle.ffv1_holding.proofs.fresh.interleave.Given as goal

abbrev pub invariant-loop-before : goal.invariant-loop-before
invariant-loop-before g l = IsInterleaving l.fn.items l.held l.fresh l.before l.left l.items

abbrev pub decreases-loop-before : goal.decreases-loop-before
decreases-loop-before g l = l.before
