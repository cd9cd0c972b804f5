use Rattle.std.proofs.Common.{◌≡◌, [], map}
use Rattle.std.specs.List.{range_with_len}
use Rattle.ffv1_range.specs.Tiles.{grid_of}
use Rattle.ffv1_picture.specs.WholePicture.{whole_plane}
use Rattle.ffv1_picture.proofs.frame.Frame.blank.Given as goal

-- the planes so far show nothing
abbrev pub invariant-loop-plane : goal.invariant-loop-plane
invariant-loop-plane l = map (λ plane. plane.items) l.planes.items ≡ map (whole_plane (grid_of l.setup) []) (range_with_len 0 l.plane)
