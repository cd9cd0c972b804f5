-- The sizes of a slice's planes (RFC 9043, sections 4.6 and 4.7).
use Rattle.std.specs.Prelude.{List, [], ◌∷◌, ◌++◌, Bool, ◌||◌, if◌then◌else◌}
use Rattle.ffv1_range.specs.Setup.{RecordingValue}
use Rattle.ffv1_range.specs.Tiles.{grid_of, tiles_rect, chroma_rect}
use Rattle.ffv1_range.specs.declared.grid.TileRect.{TileRect}
use Rattle.ffv1_range.specs.declared.head.SliceHeader.{SliceHeader}
use Rattle.ffv1_plane.specs.declared.planes.PlaneSize.{PlaneSize}

-- where the slice lies in the first plane
abbrev pub slice_rect : RecordingValue → SliceHeader → TileRect
slice_rect r header = tiles_rect (grid_of r.setup) header.x header.y header.w header.h

abbrev pub rect_size : TileRect → PlaneSize
rect_size rect = record { width = rect.w; height = rect.h }

-- Cb and Cr are subsampled, the planes of RGB are not.
abbrev pub second_size : RecordingValue → SliceHeader → PlaneSize
second_size r header = rect_size (if r.is_rgb then slice_rect r header else chroma_rect (grid_of r.setup) (slice_rect r header))

-- in coded order: the first plane, the second and third where there are such, and alpha, which has the size of the first
abbrev pub planes_sizes : Bool → Bool → PlaneSize → PlaneSize → List PlaneSize
planes_sizes has_second has_alpha first second =
    first ∷ ((if has_second then second ∷ second ∷ [] else []) ++ (if has_alpha then first ∷ [] else []))

abbrev pub slice_sizes : RecordingValue → SliceHeader → List PlaneSize
slice_sizes r header = planes_sizes (r.is_rgb || r.setup.has_chroma) r.has_alpha (rect_size (slice_rect r header)) (second_size r header)
