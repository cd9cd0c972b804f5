-- What the sizes of a slice's planes keep.
use Rattle.std.specs.Prelude.{◌≡◌, ℕ, ◌<◌, true, List, length}
use Rattle.std.specs.List.{All}
use Rattle.ffv1_range.specs.Setup.{RecordingValue}
use Rattle.ffv1_plane.specs.RangeSlices.{size_at}
use Rattle.ffv1_plane.specs.RangeReading.{IsPlaneSize}
use Rattle.ffv1_plane.specs.declared.planes.PlaneSize.{PlaneSize}
use Rattle.ffv1_samples.specs.States.{count_of_planes}

pub record AreSliceSizes (r : RecordingValue) (sizes : List PlaneSize) : Type 0 where
  pub count : length sizes ≡ count_of_planes r
  pub fit : All IsPlaneSize sizes
  -- the planes of RGB are alike
  pub alike : r.is_rgb ≡ true → (p : ℕ) → p < length sizes → size_at sizes p ≡ size_at sizes 0
