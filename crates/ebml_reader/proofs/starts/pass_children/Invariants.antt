use Rattle.std.proofs.Common.{◌-◌, ◌^◌}
use Rattle.ebml_reader.proofs.StartSteps.{ChildrenPassed}
use Rattle.ebml_reader.proofs.starts.pass_children.Given as goal

abbrev pub invariant-loop-child : goal.invariant-loop-child
invariant-loop-child g l = ChildrenPassed l.passed l.initial.intake l.intake (g.S.Source.log l.initial.source) (g.S.Source.log l.source)

abbrev pub decreases-loop-child : goal.decreases-loop-child
decreases-loop-child g l = 2 ^ 63 - l.passed
