use Rattle.std.proofs.Common.{rules}
use Rattle.ffv1_commands.proofs.scan.reported_ranges.Goals as goal

pub returns-in-Err-Line-clause-err : goal.returns-in-Err-Line-clause-err
returns-in-Err-Line-clause-err g c = search rules
