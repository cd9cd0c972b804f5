use Rattle.ffv1_splice.proofs.Common.{◌+◌, ◌-◌, ◌≤◌, IsOfNone, IsPieceFrom}
use Rattle.std.specs.Prelude.{map}
use Rattle.ffv1_splice.proofs.shortest.first_from.Given as goal

-- No piece from the place ends within that distance.
abbrev pub invariant-loop-distance : goal.invariant-loop-distance
invariant-loop-distance l = (8 ≤ l.distance) × IsOfNone (IsPieceFrom (map (λ copy. copy.now) l.copies) (l.start + l.distance) l.start)

abbrev pub decreases-loop-distance : goal.decreases-loop-distance
decreases-loop-distance l = l.reach - l.distance
