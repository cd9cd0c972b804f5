use Rattle.std.proofs.Common.{◌≡◌, string_bytes, slice_index_or}
use Rattle.std.specs.List.{flat_map, range_with_len}
use Rattle.ffv1_picture.specs.declared.partial.TileOutcome.TheVariants.{Missing}
use Rattle.ffv1_commands.specs.PictureText.{outcome_line}
use Rattle.ffv1_commands.proofs.picture.outcomes_text.Given as goal

-- the lines of the tiles so far
abbrev pub invariant-loop-tile : goal.invariant-loop-tile
invariant-loop-tile l = string_bytes l.text ≡ flat_map (λ tile. outcome_line tile (slice_index_or l.outcomes tile Missing)) (range_with_len 0 l.tile)
