use Rattle.ffv1_splice.proofs.OriginalLaws.{original_is_spliced}
use Rattle.ffv1_splice.proofs.laws.original_is_spliced.Goals as goal

pub returns : goal.returns
returns c = original_is_spliced
