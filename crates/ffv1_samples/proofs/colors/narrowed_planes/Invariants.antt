use Rattle.std.proofs.Common.{◌≡◌, map, take}
use Rattle.ffv1_samples.proofs.colors.narrowed_planes.Given as goal

abbrev pub invariant-loop-index : goal.invariant-loop-index
invariant-loop-index l = map (λ plane. plane.items) l.narrow.items ≡ take l.index (map (λ plane. plane.items) l.planes)
