use Rattle.std.proofs.Common.{◌≡◌, ℕ, ◌<◌, map}
use Rattle.ffv1_plane.specs.Picture.{samples_of}
use Rattle.ffv1_makings.proofs.maker.same_planes.Given as goal

-- The planes so far are the same.
abbrev pub invariant-loop-plane : goal.invariant-loop-plane
invariant-loop-plane l =
    (k : ℕ) → k < l.plane → samples_of (map (λ plane. plane.items) l.planes) k ≡ samples_of (map (λ plane. plane.items) l.others) k
