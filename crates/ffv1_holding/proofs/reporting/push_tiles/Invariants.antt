use Rattle.std.proofs.Common.{◌≡◌, ◌++◌, string_bytes}
use Rattle.std.specs.List.{flat_map, range_with_len}
use Rattle.ffv1_holding.specs.ReportText.{tile_lines}
use Rattle.ffv1_holding.proofs.reporting.push_tiles.Given as goal

-- the lines of the tiles so far
abbrev pub invariant-loop-tile : goal.invariant-loop-tile
invariant-loop-tile g l = string_bytes l.text ≡ string_bytes l.initial.text ++ flat_map (tile_lines l.holding) (range_with_len 0 l.tile)
