use Rattle.std.proofs.Common.{◌≡◌, ◌*◌, ◌<◌, ℕ, take, length}
use Rattle.std.specs.Prelude.{slice_index, sum}
use Rattle.ffv1_range.specs.Tables.{runs_ended}
use Rattle.ffv1_range.proofs.tables.half_table.Given as goal

abbrev pub invariant-loop-index : goal.invariant-loop-index
invariant-loop-index l =
    record {
      from : l.from ≡ sum (take l.index l.runs);
      room : length l.half ≡ 128;
      filled : (k : ℕ) → k < l.from → slice_index l.half k ≡ l.scale * runs_ended 0 l.runs k;
    }
