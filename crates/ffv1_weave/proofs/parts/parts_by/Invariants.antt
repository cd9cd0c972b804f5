use Rattle.ffv1_weave.proofs.Common.{◌-◌, map}
use Rattle.ffv1_weave.proofs.Finest.{ArePartsSoFar}
use Rattle.ffv1_weave.proofs.parts.parts_by.Given as goal

abbrev pub invariant-loop-start : goal.invariant-loop-start
invariant-loop-start l = ArePartsSoFar l.split (map (λ version. version.now) l.versions) l.size l.from l.parts.items l.count

abbrev pub decreases-loop-start : goal.decreases-loop-start
decreases-loop-start l = l.size - l.from
