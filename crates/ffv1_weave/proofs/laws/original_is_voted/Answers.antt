use Rattle.ffv1_weave.proofs.VoteLaws.{original_is_voted}
use Rattle.ffv1_weave.proofs.laws.original_is_voted.Goals as goal

pub returns : goal.returns
returns c = original_is_voted
