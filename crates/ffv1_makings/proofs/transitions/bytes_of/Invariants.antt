use Rattle.std.proofs.Common.{◌≡◌, ◌<◌, ℕ, length, pos}
use Rattle.std.specs.Prelude.{slice_index, slice_index_or}
use Rattle.ffv1_range.specs.Transitions.{delta_byte}
use Rattle.ffv1_makings.proofs.transitions.bytes_of.Given as goal

abbrev pub invariant-loop-place : goal.invariant-loop-place
invariant-loop-place l =
    record {
      size : length l.bytes ≡ 255;
      filled : (k : ℕ) → k < l.place → slice_index l.bytes k ≡ delta_byte (slice_index_or l.deltas k (pos 0));
    }
