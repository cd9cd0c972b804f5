use Rattle.std.proofs.Common.{◌≡◌}
use Rattle.std.specs.Io.KnownBytes.{Keeps}
use Rattle.ffv1_devices.proofs.Counts.{Interrupted}
use Rattle.ffv1_devices.proofs.writes.write_some.Given as goal

-- A try that was interrupted wrote nothing, and was counted.
abbrev pub invariant-loop : goal.invariant-loop
invariant-loop g l = record {
  kept : Keeps (g.S.Sink.log l.initial.sink).contents (g.S.Sink.log l.sink).contents;
  same : (g.S.Sink.log l.sink).reference ≡ (g.S.Sink.log l.initial.sink).reference;
  tries' : Interrupted l.counter (g.S.Sink.log l.initial.sink).tries (g.S.Sink.log l.sink).tries;
}
