use Rattle.ffv1_holding.proofs.ExactlyHeld.{origin_is_a_copy}
use Rattle.ffv1_holding.proofs.laws.origin_is_a_copy.Goals as goal

pub returns : goal.returns
returns c = origin_is_a_copy
