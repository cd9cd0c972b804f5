use Rattle.std.proofs.Common.{◌≤◌, length}
use Rattle.ffv1_slice.specs.Chain.{IsEnd}
use Rattle.ffv1_slice.proofs.chain.last_end.Given as goal

abbrev pub invariant-loop-start : goal.invariant-loop-start
invariant-loop-start l = record { within : l.place ≤ length l.payload; is_end : IsEnd l.payload l.place }

abbrev pub decreases-loop-start : goal.decreases-loop-start
decreases-loop-start l = l.place
