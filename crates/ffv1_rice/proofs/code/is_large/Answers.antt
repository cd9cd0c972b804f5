use Rattle.ffv1_rice.proofs.Windows.{large_test}
use Rattle.ffv1_rice.proofs.code.is_large.Goals as goal

pub returns : goal.returns
returns c = large_test c.args.depth c.args.number
