use Rattle.ffv1_stretches.proofs.FileLaws.{good_stretches_are_vouched}
use Rattle.ffv1_stretches.proofs.laws.good_stretches_are_vouched.Goals as goal

pub returns : goal.returns
returns c = good_stretches_are_vouched
