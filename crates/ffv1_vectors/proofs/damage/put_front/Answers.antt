use Rattle.std.proofs.Common.{rules}
use Rattle.ffv1_vectors.proofs.damage.put_front.Goals as goal

pub returns : goal.returns
returns c = search rules
