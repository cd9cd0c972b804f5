-- The parts in a Cluster as they are if its CRC-32 passes, by what they are if it does not.
use Rattle.std.specs.Prelude.{◌≡◌, Bool, true, false, if◌then◌else◌, List, map}
use Rattle.matroska_parts.specs.declared.parts.Part.{Part}
use Rattle.matroska_parts.specs.declared.parts.Part.TheVariants as part
use Rattle.matroska_parts.specs.declared.parts.Standing.{Standing}
use Rattle.matroska_parts.specs.declared.parts.Standing.TheVariants as standing

abbrev pub vouched_standing : Standing → Standing
vouched_standing standing.Short = standing.Short
vouched_standing (standing.Unnamed track) = standing.Unnamed track
vouched_standing (standing.Named block) = standing.Named record block { is_vouched = true }

-- a part with a block whose Cluster has a CRC-32 that passes
abbrev pub vouched : Part → Part
vouched (part.Unknown span) = part.Unknown span
vouched (part.Begin opening) = part.Begin opening
vouched (part.Timestamp timestamp) = part.Timestamp timestamp
vouched (part.Block block) = part.Block record block { standing = vouched_standing block.standing }
vouched (part.Record record') = part.Record record'
vouched (part.NoMatroska place) = part.NoMatroska place
vouched (part.End closing) = part.End closing

abbrev pub vouched_if : Bool → List Part → List Part
vouched_if passes parts = if passes then map vouched parts else parts

abbrev pub IsUnvouched : Standing → Type 0
IsUnvouched (standing.Named block) = block.is_vouched ≡ false
IsUnvouched _ = Unit {0}

-- a part in a Cluster, as it is if the CRC-32 of that doesn't pass
abbrev pub IsInner : Part → Type 0
IsInner (part.Unknown span) = Unit {0}
IsInner (part.Timestamp timestamp) = Unit {0}
IsInner (part.Block block) = IsUnvouched block.standing
IsInner _ = ⊥
