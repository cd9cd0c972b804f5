use Rattle.ffv1_splice.proofs.Common.{◌≡◌, ◌≤◌, ◌++◌, ℕ, List, length, drop, map, Place}
use Rattle.ffv1_splice.proofs.Walks.{IsSpliceBefore}
use Rattle.ffv1_splice.proofs.dividing.divide.Given as goal

-- Whatever stands before the end, it is divided with the places and the bytes after it.
abbrev pub invariant-loop-places : goal.invariant-loop-places
invariant-loop-places l = record {
  same_length : length l.payload ≡ length l.initial.payload;
  within : l.end ≤ length l.payload;
  after : (places : List Place) (front : ℕ) (before : List ℕ) → IsSpliceBefore (map (λ copy. copy.now) l.copies) l.end places front before
      → IsSpliceBefore (map (λ copy. copy.now) l.copies) (length l.initial.payload) (l.places.items ++ places) front
      (before ++ drop l.end l.payload);
}

abbrev pub decreases-loop-places : goal.decreases-loop-places
decreases-loop-places l = l.end
