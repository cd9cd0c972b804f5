use Rattle.std.proofs.Common.{◌≡◌, ℕ, List, ◌++◌, length}
use Rattle.ffv1_devices.specs.Logs.{Writes}
use Rattle.ffv1_player.specs.Written.{plane_bytes}
use Rattle.ffv1_player.proofs.write.write_plane.Given as goal

-- What is gone from the rest was written.
abbrev pub invariant-loop-rest : goal.invariant-loop-rest
invariant-loop-rest g l =
    (done : List ℕ) × (l.initial.rest ≡ done ++ l.rest) × Writes (g.W.Sink.log l.initial.sink) (g.W.Sink.log l.sink) (plane_bytes l.depth done)

abbrev pub decreases-loop-rest : goal.decreases-loop-rest
decreases-loop-rest g l = length l.rest
