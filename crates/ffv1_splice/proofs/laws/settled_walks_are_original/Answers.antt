use Rattle.ffv1_splice.proofs.OriginalLaws.{settled_walks_are_original}
use Rattle.ffv1_splice.proofs.laws.settled_walks_are_original.Goals as goal

pub returns : goal.returns
returns c = settled_walks_are_original
