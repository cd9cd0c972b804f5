use Rattle.ffv1_splice.proofs.Common.{◌≡◌, ◌++◌, map, take, moved_by}
use Rattle.ffv1_splice.proofs.splicing.push_moved.Given as goal

abbrev pub invariant-loop-place : goal.invariant-loop-place
invariant-loop-place l = l.places.items ≡ l.initial.places.items ++ map (moved_by l.start) (take l.place-index l.hole)
