use Rattle.ffv1_commands.proofs.UnreadLaws.{unread_is_given_up, long_copy_is_given_up}
use Rattle.ffv1_commands.proofs.laws.unread_files_were_given_up.Goals as goal

pub returns-clause-within_limit : goal.returns-clause-within_limit
returns-clause-within_limit c = unread_is_given_up

pub returns-clause-long_enough : goal.returns-clause-long_enough
returns-clause-long_enough c = long_copy_is_given_up
