-- A tile of a holding is shown by how it stands, and by whether the frame may be a keyframe: by no other tile.
use Rattle.std.specs.Prelude.{◌≡◌, ℕ, ◌<◌, Bool, List, Option, Some, None, slice_index_or}
use Rattle.ffv1_range.specs.Setup.{RecordingValue}
use Rattle.ffv1_holding.specs.Reels.{reel_tiles}
use Rattle.ffv1_holding.specs.Contents.{Contents}
use Rattle.ffv1_holding.specs.TileState.{tile_state}
use Rattle.ffv1_samples.specs.Slices.{SlicePictureValue, IsSamePicture}
use Rattle.ffv1_player.specs.Shown.{AreShownPictures, ShowsHolding}
use Rattle.ffv1_player.specs.declared.shown.Shown.{Shown}
use Rattle.ffv1_player.specs.declared.shown.ShownTile.TheVariants.{Missing}

-- no picture, or one and the same
abbrev pub IsSameOption : RecordingValue → Option SlicePictureValue → Option SlicePictureValue → Type 0
IsSameOption r None None = Unit {0}
IsSameOption r (Some picture) (Some other) = IsSamePicture r picture other
IsSameOption r picture other = ⊥

-- A tile of two holdings comes out alike wherever both frames may be keyframes, or neither may; and it has the same picture in both.
pub record ComesOutAlike (g h : Contents) (tile : ℕ) : Type 0 where
  pub outcome : (shown other : Shown) → ShowsHolding g shown → ShowsHolding h other → shown.samples.key ≡ other.samples.key
      → slice_index_or shown.tiles.items tile Missing ≡ slice_index_or other.tiles.items tile Missing
  pub picture : (r : RecordingValue) (key : Bool) (pictures others : List (Option SlicePictureValue)) → AreShownPictures g r key pictures
      → AreShownPictures h r key others → IsSameOption r (slice_index_or pictures tile None) (slice_index_or others tile None)

-- It does in holdings of one recording in which it stands alike.
abbrev pub TilesAreShownAlone : Type 0
TilesAreShownAlone =
    (g h : Contents) (tile : ℕ) → g.reel ≡ h.reel → tile < reel_tiles h.reel → tile_state g tile ≡ tile_state h tile → ComesOutAlike g h tile
