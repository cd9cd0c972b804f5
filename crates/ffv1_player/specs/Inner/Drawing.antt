-- Drawing the picture of a slice onto the planes of a frame.
use Rattle.std.specs.Prelude.{◌≡◌, ℕ, ◌+◌, ◌<◌, ◌≤◌, List, length}
use Rattle.ffv1_range.specs.Setup.{RecordingValue}
use Rattle.ffv1_range.specs.declared.head.SliceHeader.{SliceHeader}
use Rattle.ffv1_picture.specs.Inner.Drawing.{area}
use Rattle.ffv1_samples.specs.States.{count_of_planes}
use Rattle.ffv1_samples.specs.Sizes.{slice_rect}
use Rattle.ffv1_samples.specs.Pictures.{slice_plane_at}
use Rattle.ffv1_player.specs.Frames.{rect_in, frame_in}

-- The planes are as many and as large as those of the frame.
pub record AreFramePlanes (r : RecordingValue) (planes : List (List ℕ)) : Type 0 where
  pub count : length planes ≡ count_of_planes r
  pub each : (p : ℕ) → p < count_of_planes r → length (slice_plane_at planes p) ≡ area (frame_in r p)

-- The planes are as many and as large as those of a slice.
pub record AreSlicePlanes (r : RecordingValue) (header : SliceHeader) (planes : List (List ℕ)) : Type 0 where
  pub count : length planes ≡ count_of_planes r
  pub each : (p : ℕ) → p < count_of_planes r → length (slice_plane_at planes p) ≡ area (rect_in r p (slice_rect r header))

-- The slice has tiles of the grid alone.
pub record IsInGrid (r : RecordingValue) (header : SliceHeader) : Type 0 where
  pub columns : header.x + header.w ≤ r.setup.across
  pub rows : header.y + header.h ≤ r.setup.down
