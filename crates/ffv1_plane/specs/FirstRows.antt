-- The first rows of the planes of an RGB slice, as planes that have no other rows (RFC 9043, section 4.7): laws over the definitions alone. A row is read in
-- all planes before the next, so rows that were read before a fault are coded as if the slice ended with them.
use Rattle.std.specs.Prelude.{◌≡◌, ℕ, ◌*◌, ◌<◌, ◌≤◌, Bool, true, List, [], length, map, take, slice_index, slice_index_or, ℤ}
use Rattle.std.specs.List.{All}
use Rattle.ffv1_range.specs.Coding.{Mode, Coder}
use Rattle.ffv1_range.specs.Setup.{RecordingValue, IsInVersion3, set_contexts}
use Rattle.ffv1_rice.specs.declared.code.CodeFault.{CodeFault}
use Rattle.ffv1_plane.specs.RangeSlices.{SliceShape, slice_shape, size_at, height_at, group_at, ArePlanesCoded, AreLinesStuck}
use Rattle.ffv1_plane.specs.RangeReading.{IsPlaneSize}
use Rattle.ffv1_plane.specs.RangeLaws.{HaveEqualRows}
use Rattle.ffv1_plane.specs.RiceSlices.{ArePlanesSpelled, AreCodesStuck}
use Rattle.ffv1_plane.specs.declared.planes.PlaneSize.{PlaneSize}
use Rattle.ffv1_plane.specs.declared.range_rows.DifferenceFault.{DifferenceFault}

abbrev pub with_rows : ℕ → PlaneSize → PlaneSize
with_rows y size = record { width = size.width; height = y }

-- sizes with this height
abbrev pub rows_to : ℕ → List PlaneSize → List PlaneSize
rows_to y sizes = map (with_rows y) sizes

-- These are the first y rows of planes of some sizes.
pub record AreFirstRows (sizes : List PlaneSize) (y : ℕ) (planes firsts : List (List ℕ)) : Type 0 where
  pub count : length firsts ≡ length sizes
  pub each : (p : ℕ) → p < length sizes → slice_index_or firsts p [] ≡ take (y * (size_at sizes p).width) (slice_index_or planes p [])

-- ---- Golomb-Rice codes

-- Where bits are stuck at row y, they begin with planes of the y rows above it.
abbrev pub RowsBeforeAreSpelled : Type 0
RowsBeforeAreSpelled =
    (r : RecordingValue) (sets : List ℕ) (sizes : List PlaneSize) (values : ℕ → ℕ → List ℤ) (bits : List Bool) (fault : CodeFault) (plane y x : ℕ)
    → All IsPlaneSize sizes → r.is_rgb ≡ true → AreCodesStuck (slice_shape r sets sizes) values bits fault plane y x
    → (firsts : List (List ℕ)) × (rest : List Bool) × ArePlanesSpelled (slice_shape r sets (rows_to y sizes)) values bits firsts rest

-- Where they begin with planes, they begin with the first y rows of these.
abbrev pub FirstRowsAreSpelled : Type 0
FirstRowsAreSpelled =
    (r : RecordingValue) (sets : List ℕ) (sizes : List PlaneSize) (values : ℕ → ℕ → List ℤ) (bits rest : List Bool) (planes : List (List ℕ)) (y : ℕ)
    → All IsPlaneSize sizes → 1 ≤ length sizes → HaveEqualRows r sizes → r.is_rgb ≡ true → y ≤ height_at sizes 0
    → ArePlanesSpelled (slice_shape r sets sizes) values bits planes rest
    → (firsts : List (List ℕ)) × (more : List Bool) × AreFirstRows sizes y planes firsts × ArePlanesSpelled (slice_shape r sets (rows_to y sizes)) values bits firsts more

-- ---- range coding

-- The sets are there, and each group of a slice's planes has a row of states a context.
pub record HaveGroupStates (shape : SliceShape) (states : ℕ → List (List ℕ)) : Type 0 where
  pub there : (group : ℕ) → group < 3 → slice_index shape.sets group < length shape.recording.setup.sets
  pub count : (p : ℕ) → p < length shape.sizes
      → length (states (group_at shape p)) ≡ set_contexts shape.recording.setup (slice_index shape.sets (group_at shape p))

-- Where a content is stuck at row y, planes of the y rows above it are coded from the same start.
abbrev pub RowsBeforeAreCoded : Type 0
RowsBeforeAreCoded =
    (r : RecordingValue) (sets : List ℕ) (sizes : List PlaneSize) (mode : Mode) (start : Coder) (before : ℕ → List (List ℕ)) (fault : DifferenceFault)
    (plane y x : ℕ) → IsInVersion3 r → All IsPlaneSize sizes → HaveGroupStates (slice_shape r sets sizes) before → r.is_rgb ≡ true
    → AreLinesStuck mode (slice_shape r sets sizes) start before fault plane y x
    → (firsts : List (List ℕ)) × (end : Coder) × (after : ℕ → List (List ℕ)) × ArePlanesCoded mode (slice_shape r sets (rows_to y sizes)) start before firsts end after

-- Where planes are coded, so are their first y rows.
abbrev pub FirstRowsAreCoded : Type 0
FirstRowsAreCoded =
    (r : RecordingValue) (sets : List ℕ) (sizes : List PlaneSize) (mode : Mode) (start end : Coder) (before after : ℕ → List (List ℕ)) (planes : List (List ℕ)) (y : ℕ)
    → IsInVersion3 r → All IsPlaneSize sizes → 1 ≤ length sizes → HaveEqualRows r sizes → HaveGroupStates (slice_shape r sets sizes) before → r.is_rgb ≡ true
    → y ≤ height_at sizes 0 → ArePlanesCoded mode (slice_shape r sets sizes) start before planes end after
    → (firsts : List (List ℕ)) × (last : Coder) × (later : ℕ → List (List ℕ)) × AreFirstRows sizes y planes firsts
    × ArePlanesCoded mode (slice_shape r sets (rows_to y sizes)) start before firsts last later
