use Rattle.ffv1_stretches.proofs.FileLaws.{any_order_mends}
use Rattle.ffv1_stretches.proofs.laws.any_order_mends.Goals as goal

pub returns : goal.returns
returns c = any_order_mends
