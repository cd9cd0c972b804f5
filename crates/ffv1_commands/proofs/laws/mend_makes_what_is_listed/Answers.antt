use Rattle.ffv1_commands.proofs.MendCommandLaws.{listed_is_made}
use Rattle.ffv1_commands.proofs.laws.mend_makes_what_is_listed.Goals as goal

pub returns : goal.returns
returns c = listed_is_made
