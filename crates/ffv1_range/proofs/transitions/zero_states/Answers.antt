use Rattle.std.proofs.lemmas.List.FromFn.{fill_by_all}
use Rattle.std.proofs.Common.{arith}
use Rattle.ffv1_range.specs.Transitions.{zero_state_of, zero_states_of}
use Rattle.ffv1_range.proofs.transitions.zero_states.Goals as goal

pub returns : goal.returns
unfolding zero_states_of
returns c =
    fill_by_all (zero_state_of c.args.ones.now) c.loop-state.states 256 0 c.loop-state.invariant.size (λ k h. c.loop-state.invariant.filled k (omega arith))
