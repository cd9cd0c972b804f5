use Rattle.std.proofs.Common.{rules}
use Rattle.ffv1_commands.proofs.fault.CliFault.status.Goals as goal

pub returns-in-Words : goal.returns-in-Words
returns-in-Words c = search rules
