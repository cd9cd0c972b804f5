use Rattle.ffv1_weave.proofs.Common.{map}
use Rattle.ffv1_weave.proofs.Agreeing.{AgreeSoFar}
use Rattle.ffv1_weave.proofs.regions.differ_at.Given as goal

abbrev pub invariant-loop-version : goal.invariant-loop-version
invariant-loop-version l = AgreeSoFar (map (λ version. version.now) l.versions) l.version-index l.place
