-- What can be shown of a holding of any recording (own): the pictures of its settled tiles, each decoded as a slice of a keyframe
-- (RFC 9043, sections 4.4 to 4.9).
use Rattle.std.specs.Prelude.{◌≡◌, ◌==◌, ℕ, ◌<◌, Bool, true, false, List, length, Option, Some, None, MatchBool, not, slice_index_or}
use Rattle.std.specs.List.{filter_map}
use Rattle.ffv1_range.specs.Setup.{RecordingValue, IsScopedRecord}
use Rattle.ffv1_range.specs.SliceHeader.{IsSliceHeaderOf}
use Rattle.ffv1_range.specs.declared.head.SliceHeader.{SliceHeader}
use Rattle.ffv1_range.specs.declared.head.SliceStart.{SliceStart}
use Rattle.ffv1_range.specs.declared.scope.Scope.TheVariants.{Parities}
use Rattle.ffv1_slice.specs.Slices.{content_of}
use Rattle.ffv1_holding.specs.Reels.{Reel, reel_tiles}
use Rattle.ffv1_holding.specs.Contents.{Contents}
use Rattle.ffv1_holding.specs.TileState.{StateOfTile, missing, settled, disputed, tile_state}
use Rattle.ffv1_samples.specs.Slices.{SlicePictureValue, IsSlicePicture}
use Rattle.ffv1_samples.specs.Faults.{IsSliceFault}
use Rattle.ffv1_player.specs.Frames.{slice_end_of, IsFrameOfSlices}
use Rattle.ffv1_player.specs.declared.samples.Samples.{Samples}
use Rattle.ffv1_player.specs.declared.shown.Shown.{Shown}
use Rattle.ffv1_player.specs.declared.shown.ShownTile.{ShownTile}
use Rattle.ffv1_player.specs.declared.shown.ShownTile.TheVariants.{Decoded, Missing, Disputed, NoKeyframe, Fault}

-- what the record of a holding says, which is one with parities
abbrev pub SaysRecording : Reel → RecordingValue → Type 0
SaysRecording reel r = IsScopedRecord reel.config Parities reel.setup.width reel.setup.height r

-- ---- the keyframe bit

-- The slice is a payload's first, and the bit before its header says that the frame is no keyframe (section 4.4).
abbrev pub SaysNoKeyframe : RecordingValue → List ℕ → Type 0
SaysNoKeyframe r slice = (header : SliceHeader) × (start : SliceStart) × IsSliceHeaderOf r (content_of slice) true header start × (header.key ≡ Some false)

-- whether the frame may be a keyframe, by how tile 0 stands: unless its settled slice says that it is none
abbrev pub MayBeByTile : RecordingValue → StateOfTile → Bool → Type 0
MayBeByTile r missing key = key ≡ true
MayBeByTile r (settled slice) key = MatchBool key (¬ SaysNoKeyframe r slice) (SaysNoKeyframe r slice)
MayBeByTile r (disputed n) key = key ≡ true

abbrev pub MayBeKeyframe : RecordingValue → Contents → Bool → Type 0
MayBeKeyframe r h key = MayBeByTile r (tile_state h 0) key

-- whether it is known if the frame is a keyframe: by the bit in the settled slice of tile 0, or by intra, which is not 0 where each frame is one
-- (section 4.2.17)
abbrev pub is_key_known : RecordingValue → StateOfTile → Bool
is_key_known r (settled slice) = true
is_key_known r state = not (r.setup.intra == 0)

-- ---- tiles

-- How a settled slice of a tile comes out, and its picture: as a slice of a keyframe it is decoded, or has a fault. In a frame that is no keyframe it has no picture, as
-- the states of the frame before are not known.
abbrev pub IsShownSlice : RecordingValue → Bool → ℕ → List ℕ → ShownTile → Option SlicePictureValue → Type 0
IsShownSlice r true tile slice (Decoded end) (Some picture) =
    IsSlicePicture r (content_of slice) (tile == 0) None picture × (end ≡ slice_end_of picture)
IsShownSlice r true tile slice (Fault cause) None = IsSliceFault r (content_of slice) (tile == 0) None cause
IsShownSlice r false tile slice NoKeyframe None = Unit {0}
IsShownSlice r key tile slice outcome picture = ⊥

-- How a tile that stands so comes out, and its picture.
abbrev pub IsShownTile : RecordingValue → Bool → ℕ → StateOfTile → ShownTile → Option SlicePictureValue → Type 0
IsShownTile r key tile missing Missing None = Unit {0}
IsShownTile r key tile (settled slice) outcome picture = IsShownSlice r key tile slice outcome picture
IsShownTile r key tile (disputed n) (Disputed slices) None = slices ≡ n
IsShownTile r key tile state outcome picture = ⊥

-- ---- pictures

-- The picture of a slice of a keyframe, if it has one.
abbrev pub IsShownPicture : RecordingValue → ℕ → List ℕ → Option SlicePictureValue → Type 0
IsShownPicture r tile slice (Some picture) = IsSlicePicture r (content_of slice) (tile == 0) None picture
IsShownPicture r tile slice None = (picture : SlicePictureValue) → ¬ IsSlicePicture r (content_of slice) (tile == 0) None picture

-- The picture of a tile that stands so: that of its settled slice, in a frame that may be a keyframe.
abbrev pub IsTilePicture : RecordingValue → Bool → ℕ → StateOfTile → Option SlicePictureValue → Type 0
IsTilePicture r key tile missing picture = picture ≡ None
IsTilePicture r key tile (settled slice) picture = MatchBool key (IsShownPicture r tile slice picture) (picture ≡ None)
IsTilePicture r key tile (disputed n) picture = picture ≡ None

-- These are the pictures of the tiles of a holding, by what its record says, and by whether the frame may be a keyframe.
pub record AreShownPictures (h : Contents) (r : RecordingValue) (key : Bool) (pictures : List (Option SlicePictureValue)) : Type 0 where
  pub says : SaysRecording h.reel r
  pub may_be : MayBeKeyframe r h key
  pub count : length pictures ≡ reel_tiles h.reel
  pub each : (tile : ℕ) → tile < reel_tiles h.reel → IsTilePicture r key tile (tile_state h tile) (slice_index_or pictures tile None)

-- the pictures that there are, in the order of their tiles
abbrev pub present : List (Option SlicePictureValue) → List SlicePictureValue
present pictures = filter_map (λ picture. picture) pictures

-- ---- what is shown

-- The outcomes are those of the tiles below a number, and the frame has their pictures.
pub record ShowsEachTile (h : Contents) (r : RecordingValue) (key : Bool) (tiles : ℕ) (outcomes : List ShownTile) (frame : Samples) : Type 0 where
  pub pictures : List (Option SlicePictureValue)
  pub count : length pictures ≡ tiles
  pub stated : length outcomes ≡ tiles
  pub each : (tile : ℕ) → tile < tiles → IsShownTile r key tile (tile_state h tile) (slice_index_or outcomes tile Missing) (slice_index_or pictures tile None)
  pub is_frame : IsFrameOfSlices r key (present pictures) frame

-- A holding is shown so, with the outcome of each of its tiles.
pub record ShowsHolding (h : Contents) (shown : Shown) : Type 0 where
  pub recording : RecordingValue
  pub says : SaysRecording h.reel recording
  pub key : Bool
  pub may_be : MayBeKeyframe recording h key
  pub known : shown.is_key_known ≡ is_key_known recording (tile_state h 0)
  pub shows : ShowsEachTile h recording key (reel_tiles h.reel) shown.tiles.items shown.samples
