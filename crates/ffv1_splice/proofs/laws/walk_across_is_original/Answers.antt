use Rattle.ffv1_splice.proofs.OriginalLaws.{walk_across_is_original}
use Rattle.ffv1_splice.proofs.laws.walk_across_is_original.Goals as goal

pub returns : goal.returns
returns c = walk_across_is_original
