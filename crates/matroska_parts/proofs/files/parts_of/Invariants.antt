use Rattle.std.proofs.Common.{◌-◌, ◌≤◌, length}
use Rattle.std.specs.Prelude.{Option}
use Rattle.matroska_parts.specs.ItemParts.{PlacedContent}
use Rattle.matroska_parts.specs.Inner.Firsts.{SaysWhere}
use Rattle.matroska_parts.specs.Inner.PartsSoFar.{PartsSoFar}
use Rattle.matroska_parts.proofs.files.parts_of.Given as goal

abbrev pub invariant-loop-place : goal.invariant-loop-place
invariant-loop-place l = record {
  within : l.place ≤ length l.file;
  so_far : (found : Option PlacedContent) → SaysWhere l.first found → PartsSoFar found l.tracks.named.tracks.items l.file l.place l.parts.items;
}

abbrev pub decreases-loop-place : goal.decreases-loop-place
decreases-loop-place l = length l.file - l.place
