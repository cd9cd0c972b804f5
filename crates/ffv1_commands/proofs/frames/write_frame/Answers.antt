use Rattle.std.proofs.Common.{refl}
use Rattle.ffv1_commands.proofs.frames.write_frame.Goals as goal

pub returns-in-Err-Write : goal.returns-in-Err-Write
returns-in-Err-Write g c = (refl, c.in-Err-Write.ensures)
