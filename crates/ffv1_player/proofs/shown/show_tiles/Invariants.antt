use Rattle.ffv1_player.specs.Shown.{ShowsEachTile}
use Rattle.ffv1_player.proofs.shown.show_tiles.Given as goal

-- the tiles so far are shown
abbrev pub invariant-loop-tile : goal.invariant-loop-tile
invariant-loop-tile g l = ShowsEachTile l.holding l.recording l.key l.tile l.tiles.items l.samples
