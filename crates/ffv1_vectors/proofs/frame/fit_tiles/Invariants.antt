use Rattle.std.proofs.Common.{ℕ, ◌<◌, get_or}
use Rattle.ffv1_vectors.specs.Frames.{FitsTile}
use Rattle.ffv1_vectors.specs.declared.frame.TileSpec.{TileSpec}
use Rattle.ffv1_vectors.proofs.frame.fit_tiles.Given as goal

-- The tiles so far fit.
abbrev pub invariant-loop-tile : goal.invariant-loop-tile
invariant-loop-tile l = (tile : ℕ) (d : TileSpec) → tile < l.tile → FitsTile l.setup tile (get_or l.tiles tile d)
