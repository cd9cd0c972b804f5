use Rattle.ffv1_splice.proofs.OriginalLaws.{settled_is_original}
use Rattle.ffv1_splice.proofs.laws.settled_is_original.Goals as goal

pub returns : goal.returns
returns c = settled_is_original
