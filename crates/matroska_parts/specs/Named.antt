-- Blocks of tracks, by how many there are.
use Rattle.std.specs.Prelude.{ℕ, ◌<◌}
use Rattle.matroska_parts.specs.declared.parts.Part.{Part}
use Rattle.matroska_parts.specs.declared.parts.Part.TheVariants as part
use Rattle.matroska_parts.specs.declared.parts.Standing.{Standing}
use Rattle.matroska_parts.specs.declared.parts.Standing.TheVariants as standing

abbrev pub IsNamedBelow : ℕ → Standing → Type 0
IsNamedBelow count (standing.Named block) = block.index < count
IsNamedBelow count _ = Unit {0}

-- a part that is a block of a track is of one of so many
abbrev pub IsBelow : ℕ → Part → Type 0
IsBelow count (part.Block block) = IsNamedBelow count block.standing
IsBelow count _ = Unit {0}
