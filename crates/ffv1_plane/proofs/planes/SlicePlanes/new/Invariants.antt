use Rattle.std.proofs.Common.{◌≡◌, map, take}
use Rattle.ffv1_plane.specs.Inner.Planes.{new_rows}
use Rattle.ffv1_plane.proofs.planes.SlicePlanes.new.Given as goal

abbrev pub invariant-loop-size : goal.invariant-loop-size
invariant-loop-size l = record {
  made : l.lines.items ≡ map (new_rows l.depth) (take l.size-index l.sizes);
}
