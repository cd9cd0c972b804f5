use Rattle.ffv1_commands.proofs.SmallMendLaws.{true_is_good}
use Rattle.ffv1_commands.proofs.laws.mend_makes_what_is_good.Goals as goal

pub returns : goal.returns
returns c = true_is_good
