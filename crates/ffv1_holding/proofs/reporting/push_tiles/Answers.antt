use Rattle.std.proofs.Common.{◌++◌, string_bytes, sym, ap, ◌∙◌, append_assoc}
use Rattle.std.specs.List.{flat_map, range_with_len}
use Rattle.ffv1_holding.proofs.Lists.{flat_map-range_more}
use Rattle.ffv1_holding.specs.ReportText.{tile_lines}
use Rattle.ffv1_holding.proofs.reporting.push_tiles.Goals as goal

pub loop-tile-preserved : goal.loop-tile-preserved
loop-tile-preserved g c =
    let line = tile_lines c.args.holding.now in
    let n = c.loop-tile.tile in
    let old = string_bytes c.args.text.now in
    let lines = flat_map line (range_with_len 0 n) in
    c.in_ok-push_tile_lines.ensures ∙ ap (λ text. text ++ line n) c.loop-tile.invariant ∙ append_assoc old lines (line n)
    ∙ ap (λ text. old ++ text) (sym (flat_map-range_more line n))
