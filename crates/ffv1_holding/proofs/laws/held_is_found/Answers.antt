use Rattle.ffv1_holding.proofs.ExactlyHeld.{held_is_found}
use Rattle.ffv1_holding.proofs.laws.held_is_found.Goals as goal

pub returns : goal.returns
returns c = held_is_found
