use Rattle.std.proofs.Common.{map}
use Rattle.ffv1_range.specs.Tiles.{plane_rect, frame_rect}
use Rattle.ffv1_picture.proofs.Drawings.{DrawsPlanes}
use Rattle.ffv1_picture.proofs.drawing.draw_picture.Given as goal

-- the planes so far are drawn onto
abbrev pub invariant-loop-plane : goal.invariant-loop-plane
invariant-loop-plane l = DrawsPlanes (λ plane. (frame_rect l.grid plane).w) (plane_rect l.grid l.tile) l.plane (map (λ plane. plane.items) l.picture) (map (λ plane. plane.items) l.initial.planes)
    (map (λ plane. plane.items) l.planes)
