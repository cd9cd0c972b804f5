use Rattle.ffv1_splice.proofs.OneSplice.{same_copies_splice}
use Rattle.ffv1_splice.proofs.laws.same_copies_splice.Goals as goal

pub returns : goal.returns
returns c = same_copies_splice
