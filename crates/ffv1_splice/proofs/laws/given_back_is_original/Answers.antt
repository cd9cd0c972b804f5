use Rattle.ffv1_splice.proofs.WovenLaws.{given_back_is_original}
use Rattle.ffv1_splice.proofs.laws.given_back_is_original.Goals as goal

pub returns : goal.returns
returns c = given_back_is_original
