use Rattle.ffv1_splice.proofs.Common.{◌≡◌, ◌≤◌, ◌-◌, ◌++◌, List, length, take, map, RiseFrom, IsSettledUp, Place}
use Rattle.std.proofs.Common.{All}
use Rattle.ffv1_splice.proofs.settling.settle_up.Given as goal

-- The places that were added rise to the start, and nothing before them changed.
abbrev pub invariant-loop-bytes : goal.invariant-loop-bytes
invariant-loop-bytes l = record {
  same_length : length l.payload ≡ length l.initial.payload;
  within : l.start ≤ length l.payload;
  after : l.from ≤ l.start;
  before : take l.from l.payload ≡ take l.from l.initial.payload;
  added : (added : List Place) × (l.places.items ≡ l.initial.places.items ++ added) × RiseFrom l.from added l.start
      × All (IsSettledUp (map (λ copy. copy.now) l.copies) (length l.initial.payload) l.payload) added;
}

abbrev pub decreases-loop-bytes : goal.decreases-loop-bytes
decreases-loop-bytes l = length l.payload - l.start
