use Rattle.ffv1_commands.proofs.MendCommandLaws.{true_is_vouched}
use Rattle.ffv1_commands.proofs.laws.mend_claims_what_is_vouched.Goals as goal

pub returns : goal.returns
returns c = true_is_vouched
