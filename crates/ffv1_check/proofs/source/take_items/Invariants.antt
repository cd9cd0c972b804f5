use Rattle.std.proofs.Common.{◌-◌, ◌^◌}
use Rattle.ffv1_check.proofs.SourceSteps.{CheckSoFar}
use Rattle.ffv1_check.proofs.source.take_items.Given as goal

abbrev pub invariant-loop-intake : goal.invariant-loop-intake
invariant-loop-intake g l = CheckSoFar (g.S.Source.log l.fn.source) l.tracks.first l.tracks.tracks l.intake l.reporter (g.S.Source.log l.source) l.place

abbrev pub decreases-loop-intake : goal.decreases-loop-intake
decreases-loop-intake g l = 2 ^ 63 - l.place
