use Rattle.std.proofs.Common.{◌≡◌, ◌+◌, ◌≤◌, count_by}
use Rattle.std.specs.List.{range_with_len}
use Rattle.ffv1_holding.specs.TileState.{tile_state}
use Rattle.ffv1_holding.specs.ReportText.{is_settled, is_disputed, is_missing}
use Rattle.ffv1_holding.proofs.reporting.counts_of.Given as goal

-- the tiles so far are counted
abbrev pub invariant-loop-tile : goal.invariant-loop-tile
invariant-loop-tile g l = record {
  settled : l.counts.settled ≡ count_by (λ tile. is_settled (tile_state l.holding tile)) (range_with_len 0 l.tile);
  disputed : l.counts.disputed ≡ count_by (λ tile. is_disputed (tile_state l.holding tile)) (range_with_len 0 l.tile);
  missing : l.counts.missing ≡ count_by (λ tile. is_missing (tile_state l.holding tile)) (range_with_len 0 l.tile);
  few : l.counts.settled + l.counts.disputed + l.counts.missing ≤ l.tile;
}
