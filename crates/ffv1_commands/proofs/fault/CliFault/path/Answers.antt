use Rattle.std.proofs.Common.{rules}
use Rattle.ffv1_commands.proofs.fault.CliFault.path.Goals as goal

pub returns-in_default : goal.returns-in_default
returns-in_default c = search rules
