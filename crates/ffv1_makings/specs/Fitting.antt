-- Which pictures a recording can have (RFC 9043, sections 4.5 to 4.7), and which headers and error statuses their slices have.
use Rattle.std.specs.Prelude.{◌≡◌, ◌+◌, ◌*◌, ◌<◌, ◌≤◌, ◌==◌, ℕ, true, false, List, Option, Some, None, length, slice_index, slice_index_or, if◌then◌else◌}
use Rattle.ffv1_range.specs.Setup.{RecordingValue}
use Rattle.ffv1_range.specs.declared.head.SliceHeader.{SliceHeader}
use Rattle.ffv1_layout.specs.Cuts.{slice_status}
use Rattle.ffv1_layout.specs.Layout.{header_at, listed_slice, IsLaidOut}
use Rattle.ffv1_plane.specs.Picture.{samples_of}
use Rattle.ffv1_samples.specs.States.{count_of_planes}
use Rattle.ffv1_player.specs.Frames.{frame_in}
use Rattle.ffv1_makings.specs.Makers.{MakerValue, wanted_planes}
use Rattle.ffv1_makings.specs.declared.spec.PictureSpec.{PictureSpec}
use Rattle.ffv1_makings.specs.declared.spec.SliceSpec.{SliceSpec}

-- The slice has tiles, all of the grid, and each table set that it names is the record's; one of alpha counts only where there is such a plane.
pub record FitsSlice (r : RecordingValue) (slice : SliceSpec) : Type 0 where
  pub wide : 1 ≤ slice.w
  pub high : 1 ≤ slice.h
  pub columns : slice.x + slice.w ≤ r.setup.across
  pub rows : slice.y + slice.h ≤ r.setup.down
  pub first : slice_index slice.tables 0 < length r.setup.sets
  pub second : slice_index slice.tables 1 < length r.setup.sets
  pub alpha : r.has_alpha ≡ true → slice_index slice.tables 2 < length r.setup.sets

-- The picture has slices that fit, and planes of the size that a frame has in them.
pub record FitsPicture (r : RecordingValue) (picture : PictureSpec) : Type 0 where
  pub some : 1 ≤ length picture.slices.items
  pub slices : (place : ℕ) (d : SliceSpec) → place < length picture.slices.items → FitsSlice r (slice_index_or picture.slices.items place d)
  pub count : length picture.planes.items ≡ count_of_planes r
  pub sizes : (p : ℕ) → p < length picture.planes.items → length (samples_of (wanted_planes picture) p) ≡ (frame_in r p).w * (frame_in r p).h

-- The picture fits the recording, and goes on only from a frame.
pub record FitsMaker (maker : MakerValue) (picture : PictureSpec) : Type 0 where
  pub goes_on : picture.key ≡ false → maker.goes_on ≡ true
  pub fits : FitsPicture maker.player.recording picture

-- The header has the place, the size and the table sets that were asked for; the order of fields and a sample's aspect ratio are unknown.
pub record IsAskedHeader (r : RecordingValue) (header : SliceHeader) (slice : SliceSpec) : Type 0 where
  pub x : header.x ≡ slice.x
  pub y : header.y ≡ slice.y
  pub w : header.w ≡ slice.w
  pub h : header.h ≡ slice.h
  pub first : slice_index header.tables 0 ≡ slice_index slice.tables 0
  pub second : slice_index header.tables 1 ≡ slice_index slice.tables 1
  pub alpha : slice_index header.tables 2 ≡ (if r.has_alpha then slice_index slice.tables 2 else 0)
  pub picture_structure : header.picture_structure ≡ 0
  pub sar_num : header.sar_num ≡ 0
  pub sar_den : header.sar_den ≡ 0

-- the error status that a slice's footer is to have, which with ec 0 has none (section 4.9.2)
abbrev pub asked_status : RecordingValue → SliceSpec → Option ℕ
asked_status r slice = if r.setup.ec == 0 then None else Some slice.status

-- The payload's slices are as many as were asked for, and in their order each has its header and its error status.
pub record HasAskedSlices (r : RecordingValue) (payload : List ℕ) (asked : List SliceSpec) : Type 0 where
  pub slices : List (List ℕ)
  pub headers : List SliceHeader
  pub laid_out : IsLaidOut r payload slices headers
  pub count : length headers ≡ length asked
  pub each : (place : ℕ) (d : SliceSpec) → place < length asked → IsAskedHeader r (header_at headers place) (slice_index_or asked place d)
  pub statuses : (place : ℕ) (d : SliceSpec) → place < length asked → slice_status r (listed_slice slices place) ≡ asked_status r (slice_index_or asked place d)
