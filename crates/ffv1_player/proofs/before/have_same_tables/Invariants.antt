use Rattle.std.proofs.Common.{◌≡◌, ℕ, ◌<◌}
use Rattle.std.specs.Prelude.{slice_index}
use Rattle.ffv1_plane.specs.RangeSlices.{slice_group}
use Rattle.ffv1_player.proofs.before.have_same_tables.Given as goal

-- the planes so far have the same table sets
abbrev pub invariant-loop-plane : goal.invariant-loop-plane
invariant-loop-plane l =
    (p : ℕ) → p < l.plane
    → slice_index l.header.tables (slice_group l.recording.setup.has_chroma p) ≡ slice_index l.earlier.tables (slice_group l.recording.setup.has_chroma p)
