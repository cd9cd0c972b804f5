use Rattle.std.proofs.Common.{◌≤◌, length}
use Rattle.std.specs.Prelude.{IfSome}
use Rattle.ebml.proofs.ContentList.{LastPlaces}
use Rattle.ebml.proofs.contents.last_place.Given as goal

-- the last place of all is that of what is left, or the last so far
abbrev pub invariant-loop-content : goal.invariant-loop-content
invariant-loop-content l = record {
  places : LastPlaces l.id l.bytes l.left l.last;
  short : length l.left ≤ length l.bytes;
  within : IfSome l.last (λ place. place ≤ length l.bytes);
}

abbrev pub decreases-loop-content : goal.decreases-loop-content
decreases-loop-content l = length l.left
