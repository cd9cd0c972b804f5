use Rattle.std.proofs.Common.{rules}
use Rattle.ffv1_holding.proofs.holding.Holding.slice.Goals as goal

pub returns : goal.returns
returns g c = search rules
