use Rattle.ffv1_splice.proofs.Common.{◌≡◌, ◌≤◌, length, map, LieFrom, IsSettledDown}
use Rattle.std.proofs.Common.{All}
use Rattle.ffv1_splice.proofs.settling.settle_down.Given as goal

abbrev pub invariant-loop-start : goal.invariant-loop-start
invariant-loop-start l = record {
  same_length : length l.payload ≡ length l.initial.payload;
  within : l.end ≤ length l.payload;
  lie : LieFrom (length l.initial.payload) l.places.items l.end;
  settled : All (IsSettledDown (map (λ copy. copy.now) l.copies) l.payload) l.places.items;
}

abbrev pub decreases-loop-start : goal.decreases-loop-start
decreases-loop-start l = l.end
