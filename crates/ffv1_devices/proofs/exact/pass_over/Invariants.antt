use Rattle.std.proofs.Common.{◌≡◌, ◌+◌, ◌<◌, List, ℕ, length}
use Rattle.ffv1_devices.specs.Logs.{Reads}
use Rattle.ffv1_devices.proofs.exact.pass_over.Given as goal

-- What is passed over so far, and what is left of it.
abbrev pub invariant-loop-left : goal.invariant-loop-left
invariant-loop-left g l = record {
  room : 0 < length l.room;
  passed : (bytes : List ℕ) × Reads (g.S.Source.log l.initial.source) (g.S.Source.log l.source) bytes × (length bytes + l.left ≡ l.initial.left);
}

abbrev pub decreases-loop-left : goal.decreases-loop-left
decreases-loop-left g l = l.left
