use Rattle.std.proofs.Common.{rules}
use Rattle.ffv1_rice.proofs.run.RunIndex.start.Goals as goal

pub returns : goal.returns
returns c = search rules
