-- Frames of any recording, decoded one after the other (RFC 9043, sections 3.8.1.3, 3.8.2.4 and 4.4 to 4.7).
use Rattle.std.specs.Prelude.{◌≡◌, ℕ, ◌-◌, ◌^◌, ◌<◌, ◌==◌, ◌&&◌, ◌||◌, not, Bool, false, List, [], map, length, Option, Some, None, MatchBool, slice_index, slice_index_or, slice_get, if◌then◌else◌}
use Rattle.std.specs.List.{range_with_len}
use Rattle.std.specs.Option.{option_map}
use Rattle.ffv1_range.specs.Setup.{RecordingValue}
use Rattle.ffv1_range.specs.Tiles.{grid_of, chroma_rect}
use Rattle.ffv1_range.specs.declared.grid.TileRect.{TileRect}
use Rattle.ffv1_range.specs.declared.head.SliceHeader.{SliceHeader}
use Rattle.ffv1_plane.specs.RangeSlices.{slice_group}
use Rattle.ffv1_layout.specs.Cuts.{slice_content}
use Rattle.ffv1_layout.specs.Layout.{header_at, listed_slice, IsLaidOut}
use Rattle.ffv1_samples.specs.States.{SliceStatesValue, count_of_planes}
use Rattle.ffv1_samples.specs.Sizes.{slice_rect}
use Rattle.ffv1_samples.specs.Pictures.{slice_plane_at}
use Rattle.ffv1_samples.specs.Slices.{SlicePictureValue, IsSlicePicture}
use Rattle.ffv1_player.specs.Patches.{SlicePatch, patch_of, patched_plane}
use Rattle.ffv1_player.specs.declared.samples.Samples.{Samples}
use Rattle.ffv1_player.specs.declared.samples.SliceEnd.{SliceEnd}

-- ---- planes of a frame

-- Cb and Cr are subsampled.
abbrev pub is_subsampled : RecordingValue → ℕ → Bool
is_subsampled r p = (not r.is_rgb && r.setup.has_chroma) && ((p == 1) || (p == 2))

-- where a rectangle of the first plane lies in a plane
abbrev pub rect_in : RecordingValue → ℕ → TileRect → TileRect
rect_in r p rect = if is_subsampled r p then chroma_rect (grid_of r.setup) rect else rect

-- the whole frame in a plane
abbrev pub frame_in : RecordingValue → ℕ → TileRect
frame_in r p = rect_in r p (record { x = 0; y = 0; w = r.setup.width; h = r.setup.height })

-- a slice's samples of a plane, in their place
abbrev pub patch_in : RecordingValue → ℕ → SlicePictureValue → SlicePatch
patch_in r p picture = patch_of (rect_in r p (slice_rect r picture.header)) (slice_plane_at picture.planes p)

-- A plane of the frame: where slices overlap the last one has the place, and where none is a sample is 2 ^ (depth - 1).
abbrev pub frame_plane : RecordingValue → List SlicePictureValue → ℕ → List ℕ
frame_plane r pictures p = patched_plane (2 ^ (r.depth - 1)) (frame_in r p).w (frame_in r p).h (map (patch_in r p) pictures)

abbrev pub frame_planes : RecordingValue → List SlicePictureValue → List (List ℕ)
frame_planes r pictures = map (frame_plane r pictures) (range_with_len 0 (count_of_planes r))

-- ---- frames

abbrev pub planes_of_samples : Samples → List (List ℕ)
planes_of_samples frame = map (λ plane. plane.items) frame.planes.items

abbrev pub slice_end_of : SlicePictureValue → SliceEnd
slice_end_of picture = record { spare_bits = picture.spare_bits; is_clean = picture.is_clean }

-- The frame is that of these pictures of its slices.
pub record IsFrameOfSlices (r : RecordingValue) (key : Bool) (pictures : List SlicePictureValue) (frame : Samples) : Type 0 where
  pub width : frame.width ≡ r.setup.width
  pub height : frame.height ≡ r.setup.height
  pub shift_h : frame.shift_h ≡ r.setup.shift_h
  pub shift_v : frame.shift_v ≡ r.setup.shift_v
  pub is_rgb : frame.is_rgb ≡ r.is_rgb
  pub has_alpha : frame.has_alpha ≡ r.has_alpha
  pub depth : frame.depth ≡ r.depth
  pub is_key : frame.key ≡ key
  pub planes : planes_of_samples frame ≡ frame_planes r pictures
  pub slices : frame.slices.items ≡ map slice_end_of pictures

-- Two frames are one.
pub record IsSameFrame (frame other : Samples) : Type 0 where
  pub width : frame.width ≡ other.width
  pub height : frame.height ≡ other.height
  pub shift_h : frame.shift_h ≡ other.shift_h
  pub shift_v : frame.shift_v ≡ other.shift_v
  pub is_rgb : frame.is_rgb ≡ other.is_rgb
  pub has_alpha : frame.has_alpha ≡ other.has_alpha
  pub depth : frame.depth ≡ other.depth
  pub is_key : frame.key ≡ other.key
  pub planes : planes_of_samples frame ≡ planes_of_samples other
  pub slices : frame.slices.items ≡ other.slices.items

-- ---- the frame before

-- what a slice leaves to the slice of its number in the frame after: its header, and its states
pub record LeftValue : Type 0 where
  pub header : SliceHeader
  pub states : SliceStatesValue

abbrev pub left_by : SlicePictureValue → LeftValue
left_by picture = record { header = picture.header; states = picture.states }

-- Each plane has the same table set in two slices.
abbrev pub HaveSameTables : RecordingValue → SliceHeader → SliceHeader → Type 0
HaveSameTables r header earlier =
    (p : ℕ) → p < count_of_planes r
    → slice_index header.tables (slice_group r.setup.has_chroma p) ≡ slice_index earlier.tables (slice_group r.setup.has_chroma p)

-- A slice goes on from another: they have the same tiles, and each plane has the same table set.
pub record SliceGoesOn (r : RecordingValue) (header earlier : SliceHeader) : Type 0 where
  pub x : header.x ≡ earlier.x
  pub y : header.y ≡ earlier.y
  pub w : header.w ≡ earlier.w
  pub h : header.h ≡ earlier.h
  pub tables : HaveSameTables r header earlier

-- the slice of a number has an equal in the frame before
abbrev pub HasEqual : RecordingValue → List SliceHeader → List LeftValue → ℕ → Type 0
HasEqual r headers before place = (left : LeftValue) × (slice_get before place ≡ Some left) × SliceGoesOn r (header_at headers place) left.header

abbrev pub FrameGoesOn : RecordingValue → List SliceHeader → List LeftValue → Type 0
FrameGoesOn r headers before = (length before ≡ length headers) × ((place : ℕ) → place < length headers → HasEqual r headers before place)

-- the keyframe bit of a payload's first slice (section 4.4)
abbrev pub is_one : Option Bool → Bool
is_one (Some bit) = bit
is_one None = false

abbrev pub is_key : List SliceHeader → Bool
is_key headers = is_one (header_at headers 0).key

-- With what the slices of a frame begin: in a keyframe with nothing, else with what those of the frame before have left.
abbrev pub BeginsWith : RecordingValue → List SliceHeader → Option (List LeftValue) → List LeftValue → Type 0
BeginsWith r headers last before = MatchBool (is_key headers) (before ≡ []) ((last ≡ Some before) × FrameGoesOn r headers before)

abbrev pub states_left_at : List LeftValue → ℕ → Option SliceStatesValue
states_left_at before place = option_map (λ left. left.states) (slice_get before place)

-- ---- decoded frames

-- The slices before a place have these pictures.
abbrev pub HavePictures : RecordingValue → List (List ℕ) → List LeftValue → List SlicePictureValue → ℕ → Type 0
HavePictures r slices before pictures count =
    (length pictures ≡ count)
    × ((place : ℕ) (d : SlicePictureValue) → place < count
    → IsSlicePicture r (slice_content r (listed_slice slices place)) (place == 0) (states_left_at before place) (slice_index_or pictures place d))

-- The frame of a payload, after what the frame before has left; and what it leaves itself.
pub record IsPlayedFrame (r : RecordingValue) (last : Option (List LeftValue)) (payload : List ℕ) (frame : Samples) (left : List LeftValue) : Type 0 where
  pub slices : List (List ℕ)
  pub headers : List SliceHeader
  pub laid_out : IsLaidOut r payload slices headers
  pub before : List LeftValue
  pub begins : BeginsWith r headers last before
  pub pictures : List SlicePictureValue
  pub have : HavePictures r slices before pictures (length slices)
  pub is_frame : IsFrameOfSlices r (is_key headers) pictures frame
  pub is_left : left ≡ map left_by pictures
