use Rattle.std.proofs.Common.{rules}
use Rattle.ffv1_slice.proofs.link.Link.bytes.Goals as goal

pub returns-clause-value : goal.returns-clause-value
returns-clause-value c = search rules
