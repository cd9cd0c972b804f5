use Rattle.ffv1_splice.proofs.WholeFrames.{given_back_is_whole}
use Rattle.ffv1_splice.proofs.laws.given_back_is_whole.Goals as goal

pub returns : goal.returns
returns c = given_back_is_whole
