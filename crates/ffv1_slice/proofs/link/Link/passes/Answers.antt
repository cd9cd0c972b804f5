use Rattle.std.proofs.Common.{rules}
use Rattle.ffv1_slice.proofs.link.Link.passes.Goals as goal

pub returns : goal.returns
returns c = search rules
