use Rattle.ffv1_splice.proofs.RepairedLaws.{repaired_is_original}
use Rattle.ffv1_splice.proofs.laws.repaired_is_original.Goals as goal

pub returns : goal.returns
returns c = repaired_is_original
