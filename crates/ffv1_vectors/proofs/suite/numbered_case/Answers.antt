use Rattle.std.proofs.Common.{rules}
use Rattle.ffv1_vectors.proofs.suite.numbered_case.Goals as goal

pub returns : goal.returns
returns c = search rules
