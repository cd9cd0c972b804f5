use Rattle.ffv1_hold.proofs.OneReadLimit.{one_read_limit}
use Rattle.ffv1_hold.proofs.laws.one_read_limit.Goals as goal

pub returns : goal.returns
returns c = one_read_limit
