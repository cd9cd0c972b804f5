-- One tile of a partial picture.
use Rattle.std.specs.Prelude.{ℕ, Option}
use Rattle.ffv1_range.specs.Tiles.{grid_of}
use Rattle.ffv1_holding.specs.Contents.{Contents}
use Rattle.ffv1_holding.specs.TileState.{tile_state}
use Rattle.ffv1_picture.specs.WholePicture.{Planes}
use Rattle.ffv1_picture.specs.Inner.Drawing.{DrawsAny}
use Rattle.ffv1_picture.specs.declared.frame.Frame.{Frame}
use Rattle.ffv1_picture.specs.declared.partial.TileOutcome.{TileOutcome}
use Rattle.ffv1_picture.specs.PartialPictures.{IsShown}

-- A tile comes out so, and if it has a picture, that was drawn.
pub record ShowsTile (h : Contents) (tile : ℕ) (outcome : TileOutcome) (old new : Frame) : Type 0 where
  pub picture : Option Planes
  pub shown : IsShown h.reel.setup tile (tile_state h tile) outcome picture
  pub drawn : DrawsAny (grid_of h.reel.setup) tile picture old new
