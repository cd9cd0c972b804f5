use Rattle.ffv1_commands.proofs.CommandLaws.{commands_restore_the_original, commands_restore_near_copies, commands_show_the_original, commands_show_near_copies}
use Rattle.ffv1_commands.proofs.laws.commands_restore_the_original.Goals as goal

pub returns-clause-original : goal.returns-clause-original
returns-clause-original c = commands_restore_the_original

pub returns-clause-near : goal.returns-clause-near
returns-clause-near c = commands_restore_near_copies

pub returns-clause-shows : goal.returns-clause-shows
returns-clause-shows c = commands_show_the_original

pub returns-clause-shows_near : goal.returns-clause-shows_near
returns-clause-shows_near c = commands_show_near_copies
