use Rattle.std.proofs.Common.{◌++◌}
use Rattle.ebml.proofs.Advances.{complement_is, register_is}
use Rattle.ebml.proofs.crc.crc32_after.Goals as goal

pub returns : goal.returns
returns c = λ front is. complement_is c.advanced.result (front ++ c.args.bytes.now) (c.advanced.ensures front (register_is c.args.crc front is))
