use Rattle.ffv1_commands.proofs.SmallSpliceLaws.{true_is_spliced, settled_is_made}
use Rattle.ffv1_commands.proofs.laws.splice_makes_what_is_spliced.Goals as goal

pub returns-clause-spliced : goal.returns-clause-spliced
returns-clause-spliced c = true_is_spliced

pub returns-clause-settled : goal.returns-clause-settled
returns-clause-settled c = settled_is_made
