use Rattle.std.proofs.Common.{◌≡◌, ◌≤◌, ◌<◌, ℕ}
use Rattle.std.specs.Prelude.{slice_index}
use Rattle.ffv1_range.proofs.tables.fill.Given as goal

abbrev pub invariant-loop-k : goal.invariant-loop-k
invariant-loop-k l =
    record {
      filled : (j : ℕ) → l.from ≤ j → j < l.k → slice_index l.half j ≡ l.value;
      before : (j : ℕ) → j < l.from → slice_index l.half j ≡ slice_index l.initial.half j;
    }
