-- A tile of the profile is a slice of any recording: both definitions of its picture say the same (RFC 9043, sections 4.5 to 4.8).
use Rattle.std.specs.Prelude.{◌≡◌, ◌↔◌, ◌==◌, ◌/◌, ◌%◌, ℕ, true, List, Some, None, if◌then◌else◌}
use Rattle.ffv1_range.specs.Setup.{SetupValue, RecordingValue, IsSetupOf, IsRecordingOf}
use Rattle.ffv1_plane.specs.Picture.{PictureValue, IsPictureOf}
use Rattle.ffv1_samples.specs.Slices.{SlicePictureValue, IsSlicePicture}

-- The slice has this tile alone, in a keyframe, and its picture is the tile's.
pub record IsSliceOfTile (setup : SetupValue) (tile : ℕ) (picture : PictureValue) (slice : SlicePictureValue) : Type 0 where
  pub column : slice.header.x ≡ tile % setup.across
  pub row : slice.header.y ≡ tile / setup.across
  pub width : slice.header.w ≡ 1
  pub height : slice.header.h ≡ 1
  pub key : slice.header.key ≡ (if tile == 0 then Some true else None)
  pub planes : slice.planes ≡ picture.planes
  pub spare_bits : slice.spare_bits ≡ picture.spare_bits

-- ---- laws

-- For a record of the profile a content has a picture of a tile exactly where it has that of a slice of this tile, in a keyframe.
abbrev pub TileIsSlice : Type 0
TileIsSlice =
    (config : List ℕ) (width height : ℕ) (setup : SetupValue) (r : RecordingValue) (tile : ℕ) (content : List ℕ) (picture : PictureValue)
    → IsSetupOf config width height setup → IsRecordingOf config width height r
    → IsPictureOf setup tile content picture
    ↔ ((slice : SlicePictureValue) × IsSlicePicture r content (tile == 0) None slice × IsSliceOfTile setup tile picture slice)
