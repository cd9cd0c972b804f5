use Rattle.ffv1_mend.proofs.Vouched.{good_is_vouched}
use Rattle.ffv1_mend.proofs.laws.good_is_vouched.Goals as goal

pub returns : goal.returns
returns c = good_is_vouched
