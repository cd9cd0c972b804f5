use Rattle.std.proofs.Common.{◌≡◌, ◌++◌, map}
use Rattle.ffv1_plane.proofs.planes.SlicePlanes.into_samples.Given as goal

abbrev pub invariant-loop-plane : goal.invariant-loop-plane
invariant-loop-plane l = record {
  made : map (λ plane. plane.items) l.planes.items ≡ map (λ rows. rows.samples) l.yielded;
  all : l.fn.self.lines.items ≡ l.yielded ++ l.plane-iterator.rest.items;
}
