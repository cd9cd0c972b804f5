use Rattle.ffv1_picture.specs.Frames.{IsDrawnOf}
use Rattle.ffv1_picture.proofs.decoder.draw_links.Given as goal

-- the tiles so far are drawn
abbrev pub invariant-loop-tile : goal.invariant-loop-tile
invariant-loop-tile l = IsDrawnOf l.setup l.links l.tile l.frame
