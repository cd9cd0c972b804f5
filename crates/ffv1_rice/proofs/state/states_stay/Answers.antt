use Rattle.ffv1_rice.proofs.Sums.{states_within}
use Rattle.ffv1_rice.proofs.state.states_stay.Goals as goal

pub returns : goal.returns
returns c = states_within
