use Rattle.std.proofs.Common.{◌≡◌, ◌++◌, string_bytes, slice_index_or}
use Rattle.std.specs.List.{flat_map, range_with_len}
use Rattle.ffv1_player.specs.declared.shown.ShownTile.TheVariants.{Missing}
use Rattle.ffv1_commands.specs.AnyPictureText.{shown_line}
use Rattle.ffv1_commands.proofs.any_picture.push_tiles.Given as goal

-- the lines of the tiles so far follow what stood there
abbrev pub invariant-loop-tile : goal.invariant-loop-tile
invariant-loop-tile l =
    string_bytes l.text ≡ string_bytes l.initial.text ++ flat_map (λ tile. shown_line tile (slice_index_or l.tiles tile Missing)) (range_with_len 0 l.tile)
