-- What is shown of a tile depends on its own slices alone.
use Rattle.std.specs.Prelude.{◌≡◌, ◌≢◌, ◌+◌, ◌*◌, ◌<◌, ℕ, true, false, [], slice_index, slice_index_or}
use Rattle.ffv1_range.specs.Setup.{IsInProfile}
use Rattle.ffv1_range.specs.Tiles.{GridValue, grid_of, tile_count, plane_count, plane_rect, frame_rect}
use Rattle.ffv1_holding.specs.Contents.{Contents}
use Rattle.ffv1_holding.specs.TileState.{tile_state}
use Rattle.ffv1_picture.specs.WholePicture.{covers}
use Rattle.ffv1_picture.specs.Frames.{planes_of}
use Rattle.ffv1_picture.specs.PartialPictures.{IsPartialPicture}
use Rattle.ffv1_picture.specs.declared.frame.Frame.{Frame}
use Rattle.ffv1_picture.specs.declared.partial.Partial.{Partial}
use Rattle.ffv1_picture.specs.declared.partial.TileOutcome.TheVariants.{Missing}

-- The tile covers a place of a plane, and no other tile does.
pub record CoversAlone (g : GridValue) (tile plane x y : ℕ) : Type 0 where
  pub covered : covers (plane_rect g tile plane) x y ≡ true
  pub alone : (other : ℕ) → other < tile_count g → other ≢ tile → covers (plane_rect g other plane) x y ≡ false

-- the sample of a frame at a place of a plane
abbrev pub frame_sample : GridValue → Frame → ℕ → ℕ → ℕ → ℕ
frame_sample g frame plane x y = slice_index (slice_index_or (planes_of frame) plane []) (y * (frame_rect g plane).w + x)

-- The tile comes out alike in two partial pictures, with the same samples at the places that no other tile covers.
pub record IsShownAlike (g : GridValue) (tile : ℕ) (one other : Partial) : Type 0 where
  pub outcome : slice_index_or one.tiles.items tile Missing ≡ slice_index_or other.tiles.items tile Missing
  pub samples : (plane x y : ℕ) → plane < plane_count g → x < (frame_rect g plane).w → y < (frame_rect g plane).h → CoversAlone g tile plane x y
      → frame_sample g one.frame plane x y ≡ frame_sample g other.frame plane x y

-- In two holdings of one reel in which the tile stands alike, as it does where they have the same slices of it, the tile is
-- shown alike, whatever they have of other tiles.
abbrev pub TileAlone : Type 0
TileAlone =
    (h k : Contents) (one other : Partial) (tile : ℕ) → h.reel ≡ k.reel → IsInProfile h.reel.setup → tile < tile_count (grid_of h.reel.setup)
    → tile_state h tile ≡ tile_state k tile
    → IsPartialPicture h one → IsPartialPicture k other → IsShownAlike (grid_of h.reel.setup) tile one other
