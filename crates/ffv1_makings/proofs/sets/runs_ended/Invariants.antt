use Rattle.std.proofs.Common.{◌≡◌, ◌≤◌, ◌+◌, take, drop}
use Rattle.std.specs.Prelude.{sum}
use Rattle.ffv1_range.specs.Tables.{runs_ended}
use Rattle.ffv1_makings.proofs.sets.runs_ended.Given as goal

abbrev pub invariant-loop-length : goal.invariant-loop-length
invariant-loop-length l =
    record {
      from : l.from ≡ sum (take l.length-index l.runs);
      few : l.ended ≤ l.from;
      ended : l.ended + runs_ended l.from (drop l.length-index l.runs) l.index ≡ runs_ended 0 l.runs l.index;
    }
