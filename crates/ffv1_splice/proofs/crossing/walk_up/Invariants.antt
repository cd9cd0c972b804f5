use Rattle.ffv1_splice.proofs.Common.{◌≡◌, ◌≤◌, length, map}
use Rattle.ffv1_splice.proofs.Crossings.{IsWalkSoFar}
use Rattle.ffv1_splice.proofs.crossing.walk_up.Given as goal

-- The walk over so many lost slices.
abbrev pub invariant-loop : goal.invariant-loop
invariant-loop l = record {
  long : length l.payload ≡ length l.fn.payload;
  within : l.start ≤ length l.payload;
  walk : IsWalkSoFar (map (λ copy. copy.now) l.copies) (length l.fn.payload) l.payload l.places.items l.start l.counter;
}
