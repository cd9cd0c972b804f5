use Rattle.ffv1_splice.proofs.NearCopies.{near_copies_splice}
use Rattle.ffv1_splice.proofs.laws.near_copies_splice.Goals as goal

pub returns : goal.returns
returns c = near_copies_splice
