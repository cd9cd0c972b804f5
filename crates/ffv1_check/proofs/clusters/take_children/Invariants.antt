use Rattle.std.proofs.Common.{◌-◌, ◌^◌}
use Rattle.ffv1_check.specs.Inner.TakenParts.{ChildrenTaken}
use Rattle.ffv1_check.proofs.clusters.take_children.Given as goal

abbrev pub invariant-loop-child : goal.invariant-loop-child
invariant-loop-child g l =
    ChildrenTaken l.tracks.tracks l.place l.size l.passed l.fn.crc l.crc l.fn.reporter l.reporter l.fn.waiting l.waiting l.fn.intake l.intake
    (g.S.Source.log l.fn.source) (g.S.Source.log l.source)

abbrev pub decreases-loop-child : goal.decreases-loop-child
decreases-loop-child g l = 2 ^ 63 - l.passed
