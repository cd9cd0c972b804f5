-- The coded planes of a slice of coder_type 1 or 2, and where they are coded (RFC 9043, sections 3.8.1 and 4.7).
use Rattle.std.specs.Prelude.{◌≡◌, ℕ, ◌+◌, ◌*◌, ◌^◌, ◌<◌, ◌==◌, ◌&&◌, not, nat_lt, Bool, List, [], length, get_or, slice_index, slice_index_or, nat_abs, ◌∷◌, ◌++◌, Err, if◌then◌else◌}
use Rattle.ffv1_range.specs.Coding.{Mode, Coder, PlaceOf}
use Rattle.ffv1_range.specs.Rows.{Rows, IsRowsRun}
use Rattle.ffv1_range.specs.Setup.{RecordingValue, set_entry}
use Rattle.ffv1_plane.specs.Samples.{plane_of, coding_at, context_at, IsPlaneOfSize}
use Rattle.ffv1_plane.specs.Lines.{Line, line_at, plane_after_plane, row_after_row}
use Rattle.ffv1_plane.specs.RangeRows.{RangePlane, state_row, columns_bits, difference_form}
use Rattle.ffv1_plane.specs.declared.range_rows.DifferenceFault.{DifferenceFault}
use Rattle.ffv1_plane.specs.RangeLines.{lines_bits}
use Rattle.ffv1_plane.specs.declared.planes.PlaneSize.{PlaneSize}

-- What a slice's planes are coded by: the recording, the table set of each group, and the size of each plane, in coded order.
pub record SliceShape : Type 0 where
  pub recording : RecordingValue
  pub sets : List ℕ
  pub sizes : List PlaneSize

abbrev pub slice_shape : RecordingValue → List ℕ → List PlaneSize → SliceShape
slice_shape recording sets sizes = record { recording = recording; sets = sets; sizes = sizes }

abbrev pub no_size : PlaneSize
no_size = record { width = 0; height = 0 }

abbrev pub size_at : List PlaneSize → ℕ → PlaneSize
size_at sizes p = get_or sizes p no_size

abbrev pub height_at : List PlaneSize → ℕ → ℕ
height_at sizes p = (size_at sizes p).height

-- the bits with which samples are coded
abbrev pub coded_depth_of : RecordingValue → ℕ
coded_depth_of r = r.depth + (if r.is_rgb then 1 else 0)

-- whether predictions are of signed numbers: gray and Y Cb Cr of 16 bits (section 3.3, the exception)
abbrev pub are_signed : RecordingValue → Bool
are_signed r = not r.is_rgb && (r.depth == 16)

-- The first plane is of group 0; Cb and Cr, or the second and third of RGB, are of group 1; alpha is of group 2.
abbrev pub slice_group : Bool → ℕ → ℕ
slice_group has_chroma plane = if plane == 0 then 0 else if has_chroma && nat_lt plane 3 then 1 else 2

abbrev pub group_at : SliceShape → ℕ → ℕ
group_at shape p = slice_group shape.recording.setup.has_chroma p

-- these samples as plane p of a slice
abbrev pub slice_plane : SliceShape → List (List ℕ) → ℕ → RangePlane
slice_plane shape planes p =
    record {
      plane = plane_of (size_at shape.sizes p).width
          (coding_at (coded_depth_of shape.recording) (set_entry shape.recording.setup (slice_index shape.sets (group_at shape p))))
          (slice_index_or planes p []);
      group = group_at shape p;
      is_signed = are_signed shape.recording;
    }

-- the row of states of a sample's context
abbrev pub context_row : RangePlane → ℕ → ℕ
context_row r s = state_row r.group (nat_abs (context_at r.plane s))

-- Lines in coded order: those of RGB row after row, others plane after plane.
abbrev pub lines_of : Bool → List PlaneSize → List Line
lines_of is_rgb sizes =
    if is_rgb then row_after_row (length sizes) (height_at sizes 0) else plane_after_plane (height_at sizes) (length sizes)

abbrev pub coded_lines : SliceShape → List Line
coded_lines shape = lines_of shape.recording.is_rgb shape.sizes

-- The planes are of these sizes.
pub record ArePlanesOfSizes (depth : ℕ) (sizes : List PlaneSize) (planes : List (List ℕ)) : Type 0 where
  pub count : length planes ≡ length sizes
  pub each : (p : ℕ) → p < length sizes → IsPlaneOfSize depth (size_at sizes p).width (height_at sizes p) (slice_index_or planes p [])

-- the states of a group, a row of 32 for each context
abbrev pub HasGroupRows : ℕ → Rows → List (List ℕ) → Type 0
HasGroupRows group rows states = (k : ℕ) → k < length states → rows (state_row group k) ≡ slice_index_or states k []

-- .. of each group
abbrev pub HasGroups : Rows → (ℕ → List (List ℕ)) → Type 0
HasGroups rows states = (group : ℕ) → group < 3 → HasGroupRows group rows (states group)

abbrev pub place_at : Coder → Rows → PlaceOf Rows
place_at coder rows = record { coder = coder; states = rows }

-- The planes are coded from one place, with the states of each group there, up to another with other states.
pub record RunOfSlice (mode : Mode) (shape : SliceShape) (planes : List (List ℕ)) (lines : List Line) (start : Coder) (rows : Rows) (end : Coder)
    (after : ℕ → List (List ℕ)) : Type 0 where
  pub next : Rows
  pub run : IsRowsRun mode (place_at start rows) (lines_bits (slice_plane shape planes) lines) (place_at end next)
  pub states : HasGroups next after

-- After the lines and the first x samples of a row the difference of the next sample is refused.
pub record IsSampleStuck (mode : Mode) (shape : SliceShape) (planes : List (List ℕ)) (lines : List Line) (plane row x : ℕ) (start : Coder) (rows : Rows)
    (fault : DifferenceFault) : Type 0 where
  pub line_start : PlaceOf Rows
  pub lines_run : IsRowsRun mode (place_at start rows) (lines_bits (slice_plane shape planes) lines) line_start
  pub here : PlaceOf Rows
  pub columns_run : IsRowsRun mode line_start (columns_bits (slice_plane shape planes plane) row x) here
  pub refused :
      difference_form (coded_depth_of shape.recording) mode
      (record { coder = here.coder; states = here.states (context_row (slice_plane shape planes plane) (row * (size_at shape.sizes plane).width + x)) }) ≡ Err fault

pub record ArePlanesCoded (mode : Mode) (shape : SliceShape) (start : Coder) (before : ℕ → List (List ℕ)) (planes : List (List ℕ)) (end : Coder)
    (after : ℕ → List (List ℕ)) : Type 0 where
  pub sizes : ArePlanesOfSizes (coded_depth_of shape.recording) shape.sizes planes
  pub run : (rows : Rows) → HasGroups rows before → RunOfSlice mode shape planes (coded_lines shape) start rows end after

-- ---- where the planes can't be read on

-- The content is stuck at a sample: for some samples of the planes, which have the bits of the depth, the lines before its line are coded up to a place, the samples before it in the line from
-- there up to another, and its difference is refused there, for this fault.
pub record AreLinesStuck (mode : Mode) (shape : SliceShape) (start : Coder) (before : ℕ → List (List ℕ)) (fault : DifferenceFault) (plane row x : ℕ) : Type 0 where
  pub planes : List (List ℕ)
  pub small : (p : ℕ) → p < length shape.sizes → (s : ℕ) → get_or (slice_index_or planes p []) s 0 < 2 ^ coded_depth_of shape.recording
  pub done : List Line
  pub later : List Line
  pub order : coded_lines shape ≡ done ++ line_at plane row ∷ later
  pub inside : x < (size_at shape.sizes plane).width
  pub stuck : (rows : Rows) → HasGroups rows before → IsSampleStuck mode shape planes done plane row x start rows fault
