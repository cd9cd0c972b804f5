use Rattle.std.proofs.Common.{refl}
use Rattle.ffv1_range.specs.Transitions.{standard_transitions, one_states_with, zero_states_of, default_states}
use Rattle.ffv1_range.proofs.transitions.standard.Goals as goal

pub returns : goal.returns
unfolding standard_transitions one_states_with zero_states_of default_states
returns c = refl
