use Rattle.std.proofs.Common.{rules}
use Rattle.ffv1_commands.proofs.chain.parity_word.Goals as goal

pub returns-else-passes-clause-word : goal.returns-else-passes-clause-word
returns-else-passes-clause-word c = search rules
