use Rattle.ffv1_mend.proofs.SmallMends.{good_is_the_original}
use Rattle.ffv1_mend.proofs.small.good_is_the_original.Goals as goal

pub returns : goal.returns
returns c = good_is_the_original
