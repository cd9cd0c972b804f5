-- Samples that are drawn onto a plane (RFC 9043, section 4.6), whatever a sample is.
use Rattle.std.specs.Prelude.{◌≡◌, ℕ, ◌+◌, ◌-◌, ◌*◌, ◌<◌, ◌≤◌, List, length, slice_index_or, if◌then◌else◌}
use Rattle.ffv1_range.specs.declared.grid.TileRect.{TileRect}
use Rattle.ffv1_picture.specs.WholePicture.{covers}

-- A rectangle lies in a plane of this width and number of samples.
pub record FitsIn (width samples : ℕ) (r : TileRect) : Type 0 where
  pub in_width : r.x + r.w ≤ width
  pub in_height : (r.y + r.h) * width ≤ samples

-- The samples of a rectangle were drawn onto a plane of this width, and all others are as they were.
pub record Draws {T : Type 0} (width : ℕ) (r : TileRect) (samples old new : List T) : Type 0 where
  pub same_length : length new ≡ length old
  pub each : (x y : ℕ) (d : T) → x < width → y * width + x < length old
      → slice_index_or new (y * width + x) d
      ≡ (if covers r x y then slice_index_or samples ((y - r.y) * r.w + (x - r.x)) d else slice_index_or old (y * width + x) d)
