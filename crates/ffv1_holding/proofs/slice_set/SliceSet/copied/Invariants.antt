use Rattle.std.proofs.Common.{◌≡◌, map, take}
use Rattle.ffv1_holding.proofs.slice_set.SliceSet.copied.Given as goal

-- the copies made so far hold the bytes of the slices passed so far
abbrev pub invariant-loop-slice : goal.invariant-loop-slice
invariant-loop-slice l = map (λ v. v.items) l.slices.items ≡ map (λ v. v.items) (take l.slice-index l.self-inside.slices.items)
