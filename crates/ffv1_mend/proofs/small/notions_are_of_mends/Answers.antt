use Rattle.ffv1_mend.proofs.SmallMends.{good_is_of_mend, original_is_known_again}
use Rattle.ffv1_mend.proofs.small.notions_are_of_mends.Goals as goal

pub returns-clause-good : goal.returns-clause-good
returns-clause-good c = good_is_of_mend

pub returns-clause-original : goal.returns-clause-original
returns-clause-original c = original_is_known_again
