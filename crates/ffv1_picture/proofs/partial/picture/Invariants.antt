use Rattle.ffv1_picture.specs.PartialPictures.{ShowsTiles}
use Rattle.ffv1_picture.proofs.partial.picture.Given as goal

-- the tiles so far are shown
abbrev pub invariant-loop-tile : goal.invariant-loop-tile
invariant-loop-tile l = ShowsTiles l.holding l.tile l.tiles.items l.frame
