use Rattle.std.proofs.Common.{◌-◌, ◌^◌}
use Rattle.ebml_reader.proofs.ChildSteps.{ChildrenSoFar}
use Rattle.ebml_reader.proofs.clusters.children_end.Given as goal

abbrev pub invariant-loop-length : goal.invariant-loop-length
invariant-loop-length g l = ChildrenSoFar l.head_length l.end l.initial.intake l.intake (g.S.Source.log l.initial.source) (g.S.Source.log l.source)

abbrev pub decreases-loop-length : goal.decreases-loop-length
decreases-loop-length g l = 2 ^ 63 - l.end
