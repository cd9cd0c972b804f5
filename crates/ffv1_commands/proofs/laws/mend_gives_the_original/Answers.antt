use Rattle.ffv1_commands.proofs.MendCommandLaws.{mend_gives_the_original}
use Rattle.ffv1_commands.proofs.laws.mend_gives_the_original.Goals as goal

pub returns : goal.returns
returns c = mend_gives_the_original
