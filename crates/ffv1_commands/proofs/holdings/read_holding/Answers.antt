use Rattle.std.proofs.Common.{refl}
use Rattle.ffv1_commands.proofs.holdings.read_holding.Goals as goal

pub returns-in-Ok : goal.returns-in-Ok
returns-in-Ok g c = record { read = c.in-Ok.ensures.read }

pub returns-in-Err : goal.returns-in-Err
returns-in-Err g c = rw c.of_hold_file.ensures (record { read = (c.in-Err.fault, refl, c.in-Err.ensures.read) })
