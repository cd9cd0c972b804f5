use Rattle.std.proofs.Common.{◌≡◌, take}
use Rattle.ffv1_plane.specs.FirstRows.{rows_to}
use Rattle.ffv1_samples.proofs.sizes.rows_of.Given as goal

abbrev pub invariant-loop-index : goal.invariant-loop-index
invariant-loop-index l = l.first.items ≡ take l.index (rows_to l.rows l.sizes.items)
