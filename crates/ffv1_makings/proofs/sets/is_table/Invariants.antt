use Rattle.std.proofs.Common.{◌≡◌, ◌≤◌, take}
use Rattle.std.specs.Prelude.{sum}
use Rattle.std.specs.List.{All}
use Rattle.ffv1_makings.proofs.sets.is_table.Given as goal

abbrev pub invariant-loop-length : goal.invariant-loop-length
invariant-loop-length l =
    record {
      sum : l.total ≡ sum (take l.length-index l.runs);
      whole : l.total ≤ 128;
      few : l.length-index ≤ l.total;
      not_empty : All (λ len. 1 ≤ len) (take l.length-index l.runs);
    }
