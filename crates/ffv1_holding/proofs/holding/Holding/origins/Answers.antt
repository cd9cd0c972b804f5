use Rattle.std.proofs.Common.{rules}
use Rattle.ffv1_holding.proofs.holding.Holding.origins.Goals as goal

pub returns-clause-digests : goal.returns-clause-digests
returns-clause-digests g c = search rules
