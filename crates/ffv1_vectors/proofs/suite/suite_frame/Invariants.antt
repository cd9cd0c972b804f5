use Rattle.std.proofs.Common.{◌≡◌, ◌<◌, ℕ, length, get_or}
use Rattle.ffv1_vectors.specs.Frames.{FitsTile}
use Rattle.ffv1_vectors.specs.Suite.{IsSuiteTile}
use Rattle.ffv1_vectors.specs.declared.frame.TileSpec.{TileSpec}
use Rattle.ffv1_vectors.proofs.suite.suite_frame.Given as goal

-- The tiles so far fit, and are the case's.
abbrev pub invariant-loop-tile : goal.invariant-loop-tile
invariant-loop-tile l =
    record {
      count : length l.tiles.items ≡ l.tile;
      fit : (tile : ℕ) (d : TileSpec) → tile < l.tile → FitsTile l.setup tile (get_or l.tiles.items tile d);
      of_case : (tile : ℕ) (d : TileSpec) → tile < l.tile → IsSuiteTile l.case tile (get_or l.tiles.items tile d);
    }
