use Rattle.std.proofs.Common.{take}
use Rattle.std.specs.List.{flat_map}
use Rattle.ffv1_devices.specs.Logs.{Writes}
use Rattle.ffv1_player.specs.Written.{plane_bytes}
use Rattle.ffv1_player.proofs.write.write_samples.Given as goal

-- The planes so far were written.
abbrev pub invariant-loop-plane : goal.invariant-loop-plane
invariant-loop-plane g l =
    Writes (g.W.Sink.log l.initial.sink) (g.W.Sink.log l.sink) (flat_map (λ plane. plane_bytes l.frame.depth plane.items) (take l.plane-index l.frame.planes.items))
