use Rattle.std.proofs.Common.{rules}
use Rattle.ffv1_rice.proofs.run.RunIndex.exponent.Goals as goal

pub returns-clause-value : goal.returns-clause-value
returns-clause-value c = search rules
