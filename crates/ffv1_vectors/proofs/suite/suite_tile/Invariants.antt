use Rattle.std.proofs.Common.{◌≡◌, ◌+◌, ◌*◌, ◌%◌, ◌<◌, ℕ, length, map}
use Rattle.ffv1_range.specs.Tiles.{plane_rect, grid_of}
use Rattle.ffv1_plane.specs.Picture.{samples_of}
use Rattle.ffv1_vectors.specs.Suite.{IsSuitePlane}
use Rattle.ffv1_vectors.proofs.suite.suite_tile.Given as goal

-- The planes so far have their sizes, and are the case's.
abbrev pub invariant-loop-plane : goal.invariant-loop-plane
invariant-loop-plane l =
    record {
      count : length l.planes.items ≡ l.plane;
      sizes : (k : ℕ) → k < l.plane → length (samples_of (map (λ plane. plane.items) l.planes.items) k) ≡ (plane_rect (grid_of l.setup) l.tile k).w *
          (plane_rect (grid_of l.setup) l.tile k).h;
      of_case : (k : ℕ) → k < l.plane → IsSuitePlane l.case.content ((l.tile * 50 + k * 7) % 256)
          (length (samples_of (map (λ plane. plane.items) l.planes.items) k)) (samples_of (map (λ plane. plane.items) l.planes.items) k);
    }
