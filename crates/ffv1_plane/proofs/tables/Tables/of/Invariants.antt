use Rattle.std.proofs.Common.{◌≡◌, ◌<◌, ℕ, [], pos, get_or, length}
use Rattle.ffv1_range.specs.Setup.{set_entry}
use Rattle.ffv1_plane.proofs.tables.Tables.of.Given as goal

abbrev pub invariant-loop-table : goal.invariant-loop-table
invariant-loop-table l = record {
  kept : (t : ℕ) → t < l.table → (k : ℕ) → k < 256 → get_or (get_or l.entries t []) k (pos 0) ≡ set_entry l.recording.setup l.set t k;
  long : length l.entries ≡ 5;
}
