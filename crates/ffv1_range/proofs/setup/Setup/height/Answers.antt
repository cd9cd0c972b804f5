use Rattle.std.proofs.Common.{rules}
use Rattle.ffv1_range.proofs.setup.Setup.height.Goals as goal

pub returns : goal.returns
returns c = search rules
