use Rattle.std.proofs.Common.{◌∙◌, ap, sym, subst}
use Rattle.ffv1_range.specs.Transitions.{IsBitState, state_following}
use Rattle.ffv1_range.proofs.States.{bit_state-stays}
use Rattle.ffv1_range.proofs.transitions.next_state.Goals as goal

pub returns-clause-in_range : goal.returns-clause-in_range
returns-clause-in_range c = λ h.
    let is = c.after.ensures ∙ ap (λ t. state_following t c.args.state c.args.bit) c.standard.ensures in
    subst IsBitState (sym is) (bit_state-stays c.args.state c.args.bit h)
