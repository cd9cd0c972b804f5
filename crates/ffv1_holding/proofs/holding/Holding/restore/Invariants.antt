use Rattle.std.proofs.Common.{ℕ, ◌<◌}
use Rattle.ffv1_holding.specs.TileState.{IsSettled, tile_state}
use Rattle.ffv1_holding.proofs.holding.Holding.restore.Given as goal

-- the tiles passed so far are settled
abbrev pub invariant-loop-tile : goal.invariant-loop-tile
invariant-loop-tile g l = (t : ℕ) → t < l.tile → IsSettled (tile_state l.self t)
