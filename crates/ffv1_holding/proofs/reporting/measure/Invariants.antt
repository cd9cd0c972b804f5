use Rattle.std.proofs.Common.{◌≡◌, ◌*◌, ◌≤◌, length}
use Rattle.std.specs.List.{flat_map, range_with_len}
use Rattle.ffv1_bits.specs.Limits.{slice_limit}
use Rattle.sha2.specs.Hashers.{Holds256}
use Rattle.ffv1_holding.specs.TileState.{settled_bytes, tile_state}
use Rattle.ffv1_holding.proofs.reporting.measure.Given as goal

-- The slices of the tiles so far are hashed, and none passes its limit.
abbrev pub invariant-loop-tile : goal.invariant-loop-tile
invariant-loop-tile g l = record {
  hashed : Holds256 l.hasher (flat_map (λ tile. settled_bytes (tile_state l.holding tile)) (range_with_len 0 l.tile));
  counted : l.bytes ≡ length (flat_map (λ tile. settled_bytes (tile_state l.holding tile)) (range_with_len 0 l.tile));
  few : l.bytes ≤ l.tile * slice_limit;
}
