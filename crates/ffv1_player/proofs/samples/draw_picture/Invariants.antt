use Rattle.std.proofs.Common.{map}
use Rattle.ffv1_samples.specs.Sizes.{slice_rect}
use Rattle.ffv1_picture.proofs.Drawings.{DrawsPlanes}
use Rattle.ffv1_player.specs.Frames.{rect_in, frame_in}
use Rattle.ffv1_player.proofs.samples.draw_picture.Given as goal

-- the planes so far are drawn onto
abbrev pub invariant-loop-plane : goal.invariant-loop-plane
invariant-loop-plane l =
    DrawsPlanes (λ p. (frame_in l.recording p).w) (λ p. rect_in l.recording p (slice_rect l.recording l.picture.header)) l.plane
    (map (λ plane. plane.items) l.picture.planes.items) (map (λ plane. plane.items) l.initial.planes)
    (map (λ plane. plane.items) l.planes)
