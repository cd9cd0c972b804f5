-- The partial picture of a holding: what can be shown of its settled tiles.
use Rattle.std.specs.Prelude.{◌≡◌, ℕ, ◌<◌, List, length, Option, Some, None, slice_index_or}
use Rattle.ffv1_range.specs.Setup.{SetupValue}
use Rattle.ffv1_slice.specs.Slices.{content_of}
use Rattle.ffv1_picture.specs.TilePictures.{SpellsPlanes, IsPictureOfSlice, IsUnreadable}
use Rattle.ffv1_holding.specs.Reels.{reel_tiles}
use Rattle.ffv1_holding.specs.Contents.{Contents}
use Rattle.ffv1_holding.specs.TileState.{StateOfTile, missing, settled, disputed, tile_state}
use Rattle.ffv1_picture.specs.WholePicture.{Planes}
use Rattle.ffv1_picture.specs.Frames.{IsFrameOf}
use Rattle.ffv1_picture.specs.declared.frame.Frame.{Frame}
use Rattle.ffv1_picture.specs.declared.partial.Partial.{Partial}
use Rattle.ffv1_picture.specs.declared.partial.TileOutcome.{TileOutcome}
use Rattle.ffv1_picture.specs.declared.partial.TileOutcome.TheVariants.{Decoded, Missing, Disputed, Fault}

-- How a tile that stands so comes out, and its picture: a settled slice is decoded, or a code of it can't be read; others have no
-- picture.
abbrev pub IsShown : SetupValue → ℕ → StateOfTile → TileOutcome → Option Planes → Type 0
IsShown setup tile (settled slice) (Decoded spare) (Some planes) = SpellsPlanes setup tile (content_of slice) planes spare
IsShown setup tile (settled slice) (Fault cause) None = IsUnreadable setup tile (content_of slice) cause
IsShown setup tile missing Missing None = Unit {0}
IsShown setup tile (disputed n) (Disputed slices) None = slices ≡ n
IsShown setup tile state outcome picture = ⊥

-- The picture of a tile that stands so: that of its settled slice, if it spells one.
abbrev pub IsPictureOfTile : SetupValue → ℕ → StateOfTile → Option Planes → Type 0
IsPictureOfTile setup tile missing picture = picture ≡ None
IsPictureOfTile setup tile (settled slice) picture = IsPictureOfSlice setup tile slice picture
IsPictureOfTile setup tile (disputed n) picture = picture ≡ None

-- These are the pictures of the tiles of a holding.
pub record ArePicturesOf (h : Contents) (pictures : List (Option Planes)) : Type 0 where
  pub count : length pictures ≡ reel_tiles h.reel
  pub each : (tile : ℕ) → tile < reel_tiles h.reel → IsPictureOfTile h.reel.setup tile (tile_state h tile) (slice_index_or pictures tile None)

-- The outcomes are those of the tiles below a number, and the frame has their pictures.
pub record ShowsTiles (h : Contents) (tiles : ℕ) (outcomes : List TileOutcome) (frame : Frame) : Type 0 where
  pub pictures : List (Option Planes)
  pub count : length pictures ≡ tiles
  pub stated : length outcomes ≡ tiles
  pub each : (tile : ℕ) → tile < tiles → IsShown h.reel.setup tile (tile_state h tile) (slice_index_or outcomes tile Missing)
      (slice_index_or pictures tile None)
  pub is_frame : IsFrameOf h.reel.setup pictures frame

-- The partial picture of a holding, with the outcome of each of its tiles.
abbrev pub IsPartialPicture : Contents → Partial → Type 0
IsPartialPicture h partial = ShowsTiles h (reel_tiles h.reel) partial.tiles.items partial.frame
