use Rattle.std.proofs.Common.{[], sym}
use Rattle.ebml.proofs.Advances.{crc32_of_none}
use Rattle.ebml.proofs.crc.crc32.Goals as goal

pub returns : goal.returns
returns c = c.crc32_after.ensures [] (sym crc32_of_none)
