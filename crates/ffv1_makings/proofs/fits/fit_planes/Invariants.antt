use Rattle.std.proofs.Common.{◌≡◌, ℕ, ◌*◌, ◌<◌, length, map}
use Rattle.ffv1_plane.specs.Picture.{samples_of}
use Rattle.ffv1_player.specs.Frames.{frame_in}
use Rattle.ffv1_makings.proofs.fits.fit_planes.Given as goal

-- The planes so far have their sizes.
abbrev pub invariant-loop-plane : goal.invariant-loop-plane
invariant-loop-plane l =
    (p : ℕ) → p < l.plane → length (samples_of (map (λ plane. plane.items) l.planes) p) ≡ (frame_in l.recording p).w * (frame_in l.recording p).h
