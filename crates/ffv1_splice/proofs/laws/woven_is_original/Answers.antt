use Rattle.ffv1_splice.proofs.WovenLaws.{woven_is_original}
use Rattle.ffv1_splice.proofs.laws.woven_is_original.Goals as goal

pub returns : goal.returns
returns c = woven_is_original
