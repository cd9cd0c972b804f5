use Rattle.ffv1_commands.proofs.SmallCommandLaws.{commands_restore_by_a_function}
use Rattle.ffv1_commands.proofs.laws.commands_restore_by_a_function.Goals as goal

pub returns : goal.returns
returns c = commands_restore_by_a_function
