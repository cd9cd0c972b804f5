use Rattle.std.proofs.Common.{rules}
use Rattle.ffv1_commands.proofs.fault.of_merge.Goals as goal

pub returns-in-Read : goal.returns-in-Read
returns-in-Read c = search rules
