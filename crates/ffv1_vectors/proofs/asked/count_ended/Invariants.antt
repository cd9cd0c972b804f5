use Rattle.std.proofs.Common.{◌≡◌, ◌+◌, ◌*◌, ◌≤◌, drop}
use Rattle.ffv1_range.specs.Tables.{runs_ended}
use Rattle.ffv1_vectors.proofs.asked.count_ended.Given as goal

abbrev pub invariant-loop-length : goal.invariant-loop-length
invariant-loop-length l =
    record {
      counted : l.ended + runs_ended l.end (drop l.length-index l.runs) l.index ≡ runs_ended 0 l.runs l.index;
      few : l.ended ≤ l.length-index;
      small : l.end ≤ 4294967295 * l.length-index;
    }
