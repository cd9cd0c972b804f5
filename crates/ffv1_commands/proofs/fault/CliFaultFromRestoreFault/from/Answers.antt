use Rattle.std.proofs.Common.{rules}
use Rattle.ffv1_commands.proofs.fault.CliFaultFromRestoreFault.from.Goals as goal

pub returns-in-Missing : goal.returns-in-Missing
returns-in-Missing c = search rules
