use Rattle.ffv1_vectors.specs.Suite.{IsSuitePlane}
use Rattle.ffv1_vectors.proofs.suite.suite_plane.Given as goal

abbrev pub invariant-loop-place : goal.invariant-loop-place
invariant-loop-place l = IsSuitePlane l.content l.first l.place l.samples.items
