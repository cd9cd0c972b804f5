use Rattle.std.proofs.Common.{◌≡◌}
use Rattle.std.specs.List.{flat_map, range_with_len}
use Rattle.ffv1_holding.specs.TileState.{settled_bytes, tile_state}
use Rattle.ffv1_holding.proofs.holding.Holding.joined_slices.Given as goal

-- the settled slices of the tiles passed so far
abbrev pub invariant-loop-tile : goal.invariant-loop-tile
invariant-loop-tile g l = l.payload.items ≡ flat_map (λ tile. settled_bytes (tile_state l.self tile)) (range_with_len 0 l.tile)
