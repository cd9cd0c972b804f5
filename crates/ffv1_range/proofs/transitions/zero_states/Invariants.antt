use Rattle.std.proofs.Common.{◌≡◌, ◌<◌, ℕ, length}
use Rattle.std.specs.Prelude.{slice_index}
use Rattle.ffv1_range.specs.Transitions.{zero_state_of}
use Rattle.ffv1_range.proofs.transitions.zero_states.Given as goal

abbrev pub invariant-loop-state : goal.invariant-loop-state
invariant-loop-state l =
    record {
      size : length l.states ≡ 256;
      filled : (k : ℕ) → k < l.state → slice_index l.states k ≡ zero_state_of l.ones k;
    }
