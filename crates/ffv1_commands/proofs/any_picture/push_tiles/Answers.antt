use Rattle.std.proofs.Common.{false, ◌++◌, ℕ, List, slice_index_or, string_bytes, append_assoc, sym, ap, ◌∙◌}
use Rattle.std.proofs.lemmas.List.{get_or_default}
use Rattle.std.specs.List.{flat_map, range_with_len}
use Rattle.ffv1_holding.proofs.Lists.{flat_map-range_more}
use Rattle.ffv1_player.specs.declared.shown.ShownTile.{ShownTile}
use Rattle.ffv1_player.specs.declared.shown.ShownTile.TheVariants.{Decoded, Missing}
use Rattle.ffv1_commands.specs.AnyPictureText.{shown_line}
use Rattle.ffv1_commands.proofs.any_picture.push_tiles.Goals as goal

pub loop-tile-preserved : goal.loop-tile-preserved
loop-tile-preserved c =
    let n = c.loop-tile.tile in
    let all = c.args.tiles.now in
    let before = string_bytes c.args.text.now in
    let line : ℕ → List ℕ = λ tile. shown_line tile (slice_index_or all tile Missing) in
    let first : ShownTile = Decoded (record { spare_bits = 0; is_clean = false }) in
    let same = get_or_default all n first Missing c.loop-tile-test.true in
    c.in_ok-push_tile.ensures
    ∙ ap (λ (text : List ℕ). text ++ shown_line n (slice_index_or all n first)) c.loop-tile.invariant
    ∙ append_assoc before (flat_map line (range_with_len 0 n)) (shown_line n (slice_index_or all n first))
    ∙ ap (λ (o : ShownTile). before ++ (flat_map line (range_with_len 0 n) ++ shown_line n o)) same
    ∙ ap (λ (more : List ℕ). before ++ more) (sym (flat_map-range_more line n))
