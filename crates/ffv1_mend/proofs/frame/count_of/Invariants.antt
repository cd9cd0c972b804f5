use Rattle.std.proofs.Common.{◌≡◌, ◌-◌, ◌^◌, map, min, take}
use Rattle.ffv1_mend.specs.Mended.{count_at, product}
use Rattle.ffv1_mend.proofs.frame.count_of.Given as goal

abbrev pub invariant-loop-place : goal.invariant-loop-place
invariant-loop-place l = l.count ≡ min (product (map (λ place. count_at place.standing) (take l.place-index l.places))) (2 ^ 64 - 1)
