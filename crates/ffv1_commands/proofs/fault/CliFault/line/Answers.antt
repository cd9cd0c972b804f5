use Rattle.std.proofs.Common.{rules}
use Rattle.ffv1_commands.proofs.fault.CliFault.line.Goals as goal

pub returns-in-Write : goal.returns-in-Write
returns-in-Write c = search rules
