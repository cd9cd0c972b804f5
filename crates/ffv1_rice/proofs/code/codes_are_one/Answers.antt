use Rattle.ffv1_rice.proofs.OneCode.{one_value}
use Rattle.ffv1_rice.proofs.code.codes_are_one.Goals as goal

pub returns : goal.returns
returns c = one_value
