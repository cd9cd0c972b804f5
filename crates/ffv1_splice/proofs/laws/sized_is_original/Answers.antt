use Rattle.ffv1_splice.proofs.ClaimedPlaces.{sized_is_original}
use Rattle.ffv1_splice.proofs.laws.sized_is_original.Goals as goal

pub returns : goal.returns
returns c = sized_is_original
