use Rattle.std.proofs.lemmas.List.FromFn.{fill_by_all}
use Rattle.std.proofs.Common.{arith}
use Rattle.ffv1_range.specs.Transitions.{one_state_with, one_states_with}
use Rattle.ffv1_range.proofs.transitions.one_states.Goals as goal

pub returns : goal.returns
unfolding one_states_with
returns c =
    fill_by_all (one_state_with c.args.deltas.now) c.loop-state.states 256 0 c.loop-state.invariant.size (λ k h. c.loop-state.invariant.filled k (omega arith))
