use Rattle.ffv1_splice.proofs.RepairedLaws.{voted_is_original}
use Rattle.ffv1_splice.proofs.laws.voted_is_original.Goals as goal

pub returns : goal.returns
returns c = voted_is_original
