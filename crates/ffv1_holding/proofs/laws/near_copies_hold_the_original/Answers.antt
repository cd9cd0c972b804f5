use Rattle.ffv1_holding.proofs.ExactlyHeld.{near_held}
use Rattle.ffv1_holding.proofs.laws.near_copies_hold_the_original.Goals as goal

pub returns : goal.returns
returns c = near_held
