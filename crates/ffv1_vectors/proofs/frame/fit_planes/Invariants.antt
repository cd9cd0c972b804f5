use Rattle.std.proofs.Common.{◌≡◌, ℕ, ◌*◌, ◌<◌, length, map}
use Rattle.ffv1_range.specs.Tiles.{plane_rect}
use Rattle.ffv1_plane.specs.Picture.{samples_of}
use Rattle.ffv1_vectors.proofs.frame.fit_planes.Given as goal

-- The planes so far have their sizes.
abbrev pub invariant-loop-plane : goal.invariant-loop-plane
invariant-loop-plane l =
    (plane : ℕ) → plane < l.plane → length (samples_of (map (λ samples. samples.items) l.planes) plane) ≡ (plane_rect l.grid l.tile plane).w *
    (plane_rect l.grid l.tile plane).h
