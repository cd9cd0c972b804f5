use Rattle.std.proofs.Common.{◌≡◌, ◌<◌, ℕ, length}
use Rattle.std.specs.Prelude.{slice_index}
use Rattle.ffv1_range.specs.Transitions.{one_state_with}
use Rattle.ffv1_range.proofs.transitions.one_states.Given as goal

abbrev pub invariant-loop-state : goal.invariant-loop-state
invariant-loop-state l =
    record {
      size : length l.states ≡ 256;
      filled : (k : ℕ) → k < l.state → slice_index l.states k ≡ one_state_with l.deltas k;
    }
