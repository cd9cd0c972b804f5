use Rattle.std.proofs.Common.{◌≡◌, [], map}
use Rattle.std.specs.List.{range_with_len}
use Rattle.ffv1_player.specs.Frames.{frame_plane}
use Rattle.ffv1_player.proofs.samples.blank_planes.Given as goal

-- the planes so far show nothing
abbrev pub invariant-loop-plane : goal.invariant-loop-plane
invariant-loop-plane l = map (λ plane. plane.items) l.planes.items ≡ map (frame_plane l.recording []) (range_with_len 0 l.plane)
