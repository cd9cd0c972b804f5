-- Drawing a tile onto a frame: which samples change.
use Rattle.std.specs.Prelude.{◌≡◌, ℕ, ◌*◌, ◌<◌, List, [], length, Option, Some, None, slice_index_or}
use Rattle.ffv1_range.specs.Setup.{SetupValue}
use Rattle.ffv1_range.specs.Tiles.{GridValue, grid_of, plane_count, plane_rect, frame_rect}
use Rattle.ffv1_range.specs.declared.grid.TileRect.{TileRect}
use Rattle.ffv1_picture.specs.TilePictures.{SpellsPlanes}
use Rattle.ffv1_picture.specs.WholePicture.{Planes}
use Rattle.ffv1_picture.specs.Drawn.{Draws}
use Rattle.ffv1_picture.specs.Frames.{planes_of}
use Rattle.ffv1_picture.specs.declared.frame.Frame.{Frame}

-- a plane, of those there are
abbrev pub plane_at : Planes → ℕ → List ℕ
plane_at planes plane = slice_index_or planes plane []

-- the number of samples of a rectangle
abbrev pub area : TileRect → ℕ
area r = r.w * r.h

-- The planes are as many and as large as those of the frame.
pub record HasSizes (g : GridValue) (planes : Planes) : Type 0 where
  pub count : length planes ≡ plane_count g
  pub each : (plane : ℕ) → plane < plane_count g → length (plane_at planes plane) ≡ area (frame_rect g plane)

-- The planes are as many and as large as those of the tile.
pub record HasTileSizes (g : GridValue) (tile : ℕ) (planes : Planes) : Type 0 where
  pub count : length planes ≡ plane_count g
  pub each : (plane : ℕ) → plane < plane_count g → length (plane_at planes plane) ≡ area (plane_rect g tile plane)

-- The picture of a tile was drawn onto planes.
pub record DrawsPicture (g : GridValue) (tile : ℕ) (picture old new : Planes) : Type 0 where
  pub same_count : length new ≡ length old
  pub each : (plane : ℕ) → plane < plane_count g
      → Draws (frame_rect g plane).w (plane_rect g tile plane) (plane_at picture plane) (plane_at old plane) (plane_at new plane)

-- The picture of a tile was drawn onto a frame.
pub record DrawsOnto (g : GridValue) (tile : ℕ) (picture : Planes) (old new : Frame) : Type 0 where
  pub width : new.width ≡ old.width
  pub height : new.height ≡ old.height
  pub has_chroma : new.has_chroma ≡ old.has_chroma
  pub shift_h : new.shift_h ≡ old.shift_h
  pub shift_v : new.shift_v ≡ old.shift_v
  pub planes : DrawsPicture g tile picture (planes_of old) (planes_of new)

-- The picture was drawn, if there is one.
abbrev pub DrawsAny : GridValue → ℕ → Option Planes → Frame → Frame → Type 0
DrawsAny g tile None old new = new ≡ old
DrawsAny g tile (Some picture) old new = DrawsOnto g tile picture old new

-- The content spells a picture of the tile, with these spare bits, and that was drawn.
pub record DrawsSlice (setup : SetupValue) (tile : ℕ) (content : List ℕ) (old new : Frame) (spare : ℕ) : Type 0 where
  pub picture : Planes
  pub is_picture : SpellsPlanes setup tile content picture spare
  pub drawn : DrawsOnto (grid_of setup) tile picture old new
