use Rattle.std.proofs.Common.{◌-◌, ◌≤◌, length}
use Rattle.matroska_parts.specs.Inner.PartsSoFar.{IsFirstOfRest}
use Rattle.matroska_parts.proofs.files.first_tracks.Given as goal

abbrev pub invariant-loop-place : goal.invariant-loop-place
invariant-loop-place l = record {
  within : l.place ≤ length l.file;
  rest : IsFirstOfRest l.file l.place;
}

abbrev pub decreases-loop-place : goal.decreases-loop-place
decreases-loop-place l = length l.file - l.place
