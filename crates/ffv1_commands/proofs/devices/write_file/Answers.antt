use Rattle.std.proofs.Common.{refl}
use Rattle.ffv1_commands.proofs.devices.write_file.Goals as goal

pub returns-in-Ok : goal.returns-in-Ok
returns-in-Ok g c = record { wrote = c.in-Ok.ensures }

pub returns-in-Err : goal.returns-in-Err
returns-in-Err g c = record { wrote = (refl, c.in-Err.ensures) }
