use Rattle.ffv1_splice.proofs.SettledInHole.{settled_in_hole_is_original}
use Rattle.ffv1_splice.proofs.laws.settled_in_hole_is_original.Goals as goal

pub returns : goal.returns
returns c = settled_in_hole_is_original
