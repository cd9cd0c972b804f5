use Rattle.std.proofs.Common.{◌≡◌, ◌*◌, ◌<◌, ℕ}
use Rattle.std.specs.Prelude.{pos}
use Rattle.ffv1_range.specs.Setup.{set_entry}
use Rattle.ffv1_range.specs.Tables.{runs_ended}
use Rattle.ffv1_vectors.proofs.asked.has_table.Given as goal

abbrev pub invariant-loop-index : goal.invariant-loop-index
invariant-loop-index l = (k : ℕ) → k < l.index → set_entry l.setup l.set l.table k ≡ pos (l.scale * runs_ended 0 l.runs k)
