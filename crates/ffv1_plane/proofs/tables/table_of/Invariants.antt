use Rattle.std.proofs.Common.{◌≡◌, ◌<◌, ℕ, pos, get_or, length}
use Rattle.ffv1_range.specs.Setup.{set_entry}
use Rattle.ffv1_plane.proofs.tables.table_of.Given as goal

abbrev pub invariant-loop-index : goal.invariant-loop-index
invariant-loop-index l = record {
  kept : (k : ℕ) → k < l.index → get_or l.entries k (pos 0) ≡ set_entry l.recording.setup l.set l.table k;
  long : length l.entries ≡ 256;
}
