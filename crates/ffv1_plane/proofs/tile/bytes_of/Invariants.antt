use Rattle.std.proofs.Common.{◌≡◌, ◌<◌, ℕ, length, get_or}
use Rattle.ffv1_plane.proofs.tile.bytes_of.Given as goal

abbrev pub invariant-loop-place : goal.invariant-loop-place
invariant-loop-place l = record {
  long : length l.bytes.items ≡ length l.samples;
  kept : (k : ℕ) → k < l.place → get_or l.bytes.items k 0 ≡ get_or l.samples k 0;
}
