use Rattle.std.proofs.Common.{◌≡◌, ◌≤◌, ◌-◌, length, take}
use Rattle.ffv1_devices.specs.Logs.{Reads}
use Rattle.ffv1_devices.proofs.reads.read_full.Given as goal

-- What was filled is what was read.
abbrev pub invariant-loop-filled : goal.invariant-loop-filled
invariant-loop-filled g l = record {
  same : length l.buf ≡ length l.initial.buf;
  within : l.filled ≤ length l.buf;
  read : Reads (g.S.Source.log l.initial.source) (g.S.Source.log l.source) (take l.filled l.buf);
}

abbrev pub decreases-loop-filled : goal.decreases-loop-filled
decreases-loop-filled g l = length l.buf - l.filled
