use Rattle.ffv1_weave.proofs.Common.{map, ◌-◌}
use Rattle.ffv1_weave.proofs.RegionSteps.{IsEndSoFar}
use Rattle.ffv1_weave.proofs.regions.end_from.Given as goal

abbrev pub invariant-loop-place : goal.invariant-loop-place
invariant-loop-place l = IsEndSoFar (map (λ version. version.now) l.versions) l.start l.end l.place l.size

abbrev pub decreases-loop-place : goal.decreases-loop-place
decreases-loop-place l = l.size - l.place
