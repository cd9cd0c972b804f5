use Rattle.std.proofs.Common.{rules}
use Rattle.ffv1_slice.proofs.footer.content_of.Goals as goal

pub returns : goal.returns
returns c = search rules
