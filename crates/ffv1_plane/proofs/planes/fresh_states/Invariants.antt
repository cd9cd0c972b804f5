use Rattle.std.proofs.Common.{◌≡◌, replicate}
use Rattle.ffv1_plane.proofs.planes.fresh_states.Given as goal

abbrev pub invariant-loop : goal.invariant-loop
invariant-loop l = record { made : l.states.items ≡ replicate l.counter (replicate 32 128) }
