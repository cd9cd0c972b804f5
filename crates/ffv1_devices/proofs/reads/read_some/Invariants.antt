use Rattle.std.proofs.Common.{◌≡◌, length}
use Rattle.std.specs.Io.KnownBytes.{Keeps}
use Rattle.ffv1_devices.proofs.Counts.{Interrupted}
use Rattle.ffv1_devices.proofs.reads.read_some.Given as goal

-- A try that was interrupted took nothing, and was counted.
abbrev pub invariant-loop : goal.invariant-loop
invariant-loop g l = record {
  same : length l.buf ≡ length l.initial.buf;
  kept : Keeps (g.S.Source.log l.initial.source).remaining (g.S.Source.log l.source).remaining;
  taken' : (g.S.Source.log l.source).taken ≡ (g.S.Source.log l.initial.source).taken;
  tries' : Interrupted l.counter (g.S.Source.log l.initial.source).tries (g.S.Source.log l.source).tries;
}
