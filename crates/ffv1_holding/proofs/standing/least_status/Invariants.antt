use Rattle.ffv1_holding.specs.Sets as set
use Rattle.ffv1_holding.proofs.Leasts.{LeastOf}
use Rattle.ffv1_holding.proofs.standing.least_status.Given as goal

-- the least status of the slices passed so far
abbrev pub invariant-loop-place : goal.invariant-loop-place
invariant-loop-place l = LeastOf (set.items l.slices) l.place l.least
