use Rattle.std.proofs.Common.{rules}
use Rattle.ffv1_range.proofs.head.read_head_within.Goals as goal

pub returns : goal.returns
returns c = search rules
