use Rattle.ffv1_weave.proofs.AmongTried.{original_is_woven}
use Rattle.ffv1_weave.proofs.laws.original_is_woven.Goals as goal

pub returns : goal.returns
returns c = original_is_woven
