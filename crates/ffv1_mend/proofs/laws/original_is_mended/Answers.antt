use Rattle.ffv1_mend.proofs.Covered.{original_is_mended}
use Rattle.ffv1_mend.proofs.laws.original_is_mended.Goals as goal

pub returns : goal.returns
returns c = original_is_mended
