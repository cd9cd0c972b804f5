use Rattle.std.proofs.Common.{◌-◌}
use Rattle.ffv1_plane.specs.Inner.Progress.{IsRunBegun}
use Rattle.ffv1_plane.proofs.run.read_run.Given as goal

abbrev pub invariant-loop-skipped : goal.invariant-loop-skipped
invariant-loop-skipped l = IsRunBegun l.left l.fn.index l.fn.bits.left l.skipped l.index l.bits.left

abbrev pub decreases-loop-skipped : goal.decreases-loop-skipped
decreases-loop-skipped l = l.left - l.skipped
