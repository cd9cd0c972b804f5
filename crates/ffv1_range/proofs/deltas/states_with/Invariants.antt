use Rattle.std.proofs.Common.{◌≡◌, ◌<◌, ℕ, length}
use Rattle.std.specs.Prelude.{slice_index}
use Rattle.ffv1_range.specs.Inner.TableForms.{state_with}
use Rattle.ffv1_range.proofs.deltas.states_with.Given as goal

abbrev pub invariant-loop-k : goal.invariant-loop-k
invariant-loop-k l =
    record {
      size : length l.states ≡ 32;
      filled : (j : ℕ) → j < l.k → slice_index l.states j ≡ state_with l.before l.deltas j;
    }
