-- How many bytes of a file some check covers that passes (own): the content of each element whose CRC-32 passes; and where none does, the links of
-- frames that pass, the payloads of FLAC that are right, and the records that pass. So none counts twice.
use Rattle.std.specs.Prelude.{ℕ, ◌||◌, if◌then◌else◌, List, sum_by}
use Rattle.matroska_parts.specs.Openings.{passes}
use Rattle.matroska_parts.specs.declared.parts.Part.{Part}
use Rattle.matroska_parts.specs.declared.parts.Part.TheVariants as part
use Rattle.matroska_parts.specs.declared.parts.Standing.{Standing}
use Rattle.matroska_parts.specs.declared.parts.Standing.TheVariants as standing

-- those of a block: none in a Cluster whose CRC-32 passes, as that covers them
abbrev pub block_bytes : Standing → ℕ
block_bytes (standing.Named block) = if block.is_vouched then 0 else block.passing
block_bytes _ = 0

abbrev pub part_bytes : Part → ℕ
part_bytes (part.Block block) = block_bytes block.standing
part_bytes (part.Record record') = if record'.is_wrong || record'.is_vouched then 0 else record'.size
part_bytes (part.End closing) = if passes closing.crc32 then closing.content else 0
part_bytes _ = 0

abbrev pub checked_bytes : List Part → ℕ
checked_bytes parts = sum_by part_bytes parts
