use Rattle.std.proofs.Common.{take}
use Rattle.std.specs.List.{flat_map}
use Rattle.ffv1_devices.specs.Logs.{Writes}
use Rattle.ffv1_picture.proofs.raw.write_raw.Given as goal

-- The planes so far were written.
abbrev pub invariant-loop-plane : goal.invariant-loop-plane
invariant-loop-plane g l = Writes (g.W.Sink.log l.initial.sink) (g.W.Sink.log l.sink) (flat_map (λ plane. plane.items) (take l.plane-index l.frame.planes.items))
