use Rattle.ffv1_splice.proofs.ClaimedPlaces.{claimed_alone_is_original}
use Rattle.ffv1_splice.proofs.laws.claimed_alone_is_original.Goals as goal

pub returns : goal.returns
returns c = claimed_alone_is_original
