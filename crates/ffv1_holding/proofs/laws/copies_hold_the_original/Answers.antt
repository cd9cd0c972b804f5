use Rattle.ffv1_holding.proofs.ExactlyHeld.{exactly_held}
use Rattle.ffv1_holding.proofs.laws.copies_hold_the_original.Goals as goal

pub returns : goal.returns
returns c reel payload slices copies original are = exactly_held reel slices copies are
