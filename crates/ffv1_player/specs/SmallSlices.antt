-- A slice of any recording and its samples: what its content stands for, and no word of faults or of their order (RFC 9043, sections 3.2 to 3.8
-- and 4.4 to 4.7).
use Rattle.std.specs.Prelude.{◌≡◌, ◌≢◌, ℕ, zero, suc, ◌+◌, ◌-◌, ◌*◌, ◌/◌, ◌^◌, ◌<◌, ◌==◌, ◌&&◌, ◌||◌, not, Bool, true, false, List, [], ◌∷◌, ◌++◌, map, length, drop, get_or, slice_index, Option, is_some, Ok, ℤ, pos, MatchBool, if◌then◌else◌}
use Rattle.std.specs.Int.{div_ceil}
use Rattle.std.specs.List.{flat_map, range_with_len}
use Rattle.ffv1_bits.specs.Bits.{bits_of}
use Rattle.ffv1_range.specs.Coding.{Coder, bit_at}
use Rattle.ffv1_range.specs.Symbols.{signed_symbol_bits}
use Rattle.ffv1_range.specs.Setup.{SetupValue, RecordingValue, set_entry}
use Rattle.ffv1_range.specs.Tiles.{part_start}
use Rattle.ffv1_range.specs.Rows.{Rows, RowBits, IsRowsRun}
use Rattle.ffv1_range.specs.Header.{IsHeaderOf, BeginAt}
use Rattle.ffv1_range.specs.SliceHeader.{slice_mode, slice_bytes, field_count, FitsRecording, slice_header_with}
use Rattle.ffv1_range.specs.declared.grid.TileRect.{TileRect}
use Rattle.ffv1_range.specs.declared.head.SliceHeader.{SliceHeader}
use Rattle.ffv1_rice.specs.States.{ContextState, start_state, after_value}
use Rattle.ffv1_rice.specs.Codes.{SpellsValue}
use Rattle.ffv1_rice.specs.Runs.{SpellsRun}
use Rattle.ffv1_colors.specs.Colors.{Samples, are_swapped, swapped, coded_of_colors}
use Rattle.ffv1_plane.specs.Samples.{SamplesAbout, neighbours_at, context_of, prediction_of, difference_of}
use Rattle.ffv1_plane.specs.Spelling.{Residuals, is_coded, starts_run, left_in_line, run_length, value_at, context_number}
use Rattle.ffv1_plane.specs.Lines.{Line, line_at}
use Rattle.ffv1_plane.specs.RangeRows.{signed_prediction_of, state_row}
use Rattle.ffv1_plane.specs.RangeSlices.{size_at, height_at, coded_depth_of, slice_group, ArePlanesOfSizes, HasGroups}
use Rattle.ffv1_plane.specs.declared.planes.PlaneSize.{PlaneSize}
use Rattle.ffv1_samples.specs.States.{GroupsOf, states_of_group, SliceStatesValue, range_states, rice_states, count_of_planes, HaveGroupContexts, rows_before, codes_before}
use Rattle.ffv1_samples.specs.Pictures.{slice_plane_at}
use Rattle.ffv1_player.specs.Frames.{is_subsampled, LeftValue}

-- ---- where a slice lies

-- the tiles of a slice, in samples of the first plane (section 4.6)
abbrev pub slice_area : SetupValue → SliceHeader → TileRect
slice_area s header =
    let x = part_start s.width s.across header.x in
    let y = part_start s.height s.down header.y in
    record { x = x; y = y; w = part_start s.width s.across (header.x + header.w) - x; h = part_start s.height s.down (header.y + header.h) - y }

-- The same in a plane: Cb and Cr are subsampled. There the place is rounded down (own), and the size up.
abbrev pub area_in : RecordingValue → ℕ → TileRect → TileRect
area_in r p a =
    let wide = 2 ^ r.setup.shift_h in
    let high = 2 ^ r.setup.shift_v in
    if is_subsampled r p then (record { x = a.x / wide; y = a.y / high; w = div_ceil a.w wide; h = div_ceil a.h high }) else a

abbrev pub area_size : TileRect → PlaneSize
area_size a = record { width = a.w; height = a.h }

-- the size of each plane of a slice
abbrev pub plane_sizes : RecordingValue → SliceHeader → List PlaneSize
plane_sizes r header = map (λ p. area_size (area_in r p (slice_area r.setup header))) (range_with_len 0 (count_of_planes r))

-- ---- headers

-- The content begins with this header, after the frame's keyframe bit where it is the payload's first (sections 4.4 and 4.5). The range coder is then
-- here.
pub record StartsWithHeader (r : RecordingValue) (content : List ℕ) (first : Bool) (header : SliceHeader) (end : Coder) : Type 0 where
  pub fields : List ℕ
  pub coded : IsHeaderOf (slice_mode r) (field_count r.has_alpha) (slice_bytes r content) header.key fields end
  pub has_key : is_some header.key ≡ first
  pub fits : FitsRecording r fields
  pub values : header ≡ slice_header_with r.has_alpha header.key fields

-- ---- lines of samples

-- Lines in coded order (section 4.7): those of RGB row after row, each in all planes, others plane after plane.
abbrev pub lines_in_order : RecordingValue → List PlaneSize → List Line
lines_in_order r sizes =
    if r.is_rgb then flat_map (λ y. map (λ p. line_at p y) (range_with_len 0 (length sizes))) (range_with_len 0 (height_at sizes 0))
    else flat_map (λ p. map (line_at p) (range_with_len 0 (height_at sizes p))) (range_with_len 0 (length sizes))

-- The prediction (section 3.3): of gray and Y Cb Cr of 16 bits with coder_type 1 and 2 the samples are taken as signed numbers.
abbrev pub predicted : RecordingValue → SamplesAbout → ℕ
predicted r about = if not (r.coder == 0) && (not r.is_rgb && (r.depth == 16)) then signed_prediction_of about else prediction_of about

-- the planes that share states: the first, the second and third, and alpha
abbrev pub group_of : RecordingValue → Line → ℕ
group_of r line = slice_group r.setup.has_chroma line.plane

-- what of a line of a slice's planes is coded: at each sample its context and its difference
abbrev pub coded_line : RecordingValue → SliceHeader → List (List ℕ) → Line → Residuals
coded_line r header planes line =
    let width = (size_at (plane_sizes r header) line.plane).width in
    let samples = slice_plane_at planes line.plane in
    let about : ℕ → SamplesAbout = λ x. neighbours_at width samples (line.row * width + x) in
    let context : ℕ → ℤ = λ x. context_of (set_entry r.setup (slice_index header.tables (group_of r line))) (about x) in
    record {
      depth = coded_depth_of r;
      width = width;
      context = context;
      difference = λ x. difference_of (coded_depth_of r) (context x) (predicted r (about x)) (get_or samples (line.row * width + x) 0);
    }

-- ---- range-coded planes

-- the bits of a line: each difference is a signed symbol, at the states of its context
abbrev pub line_symbols : RecordingValue → SliceHeader → List (List ℕ) → Line → List RowBits
line_symbols r header planes line =
    let coded = coded_line r header planes line in
    map (λ x. (state_row (group_of r line) (context_number coded x), signed_symbol_bits (coded.difference x))) (range_with_len 0 coded.width)

-- With coder_type 1 and 2 the planes are range-coded from there on (section 3.8.1), at the states before them and up to those after them. One
-- bit more follows.
pub record AreRangeCodedPlanes (r : RecordingValue) (header : SliceHeader) (start : Coder) (before : Option SliceStatesValue) (planes : List (List ℕ))
    (after : GroupsOf (List ℕ)) : Type 0 where
  pub coder : r.coder ≢ 0
  pub end : Coder
  pub run : (rows : Rows) → HasGroups rows (rows_before r header.tables before)
      → (next : Rows) × HasGroups next (states_of_group after) × IsRowsRun (slice_mode r) (record { coder = start; states = rows })
      (flat_map (line_symbols r header planes) (lines_in_order r (plane_sizes r header))) (record { coder = end; states = next })
  pub last : Bool × Coder
  pub ends : bit_at false end 129 ≡ Ok last

-- ---- planes of Golomb-Rice codes

-- The states of a line's contexts at a column, where the line begins with some states: each value that is coded changes that of its context.
unfoldable pub states_at_column : Residuals → (ℕ → ContextState) → ℕ → ℕ → ContextState
states_at_column line states zero context = states context
states_at_column line states (suc x) context =
    let state = states_at_column line states x context in
    if is_coded line x && (context_number line x == context) then after_value line.depth state (value_at line x) else state

-- The bits of the sample of a column: where a run starts there, the run's; then, where the sample is coded, its code. The run index is one
-- number before them and another after them.
pub record SampleIsSpelled (line : Residuals) (states : ℕ → ContextState) (x index : ℕ) (bits : List Bool) (next : ℕ) : Type 0 where
  pub run : List Bool
  pub code : List Bool
  pub joined : bits ≡ run ++ code
  pub run_starts : starts_run line x ≡ true → SpellsRun (run_length line x) (left_in_line line x) index run next
  pub no_run_starts : starts_run line x ≡ false → (run ≡ []) × (next ≡ index)
  pub coded : is_coded line x ≡ true → SpellsValue line.depth (states (context_number line x)) (value_at line x) code
  pub not_coded : is_coded line x ≡ false → code ≡ []

-- the bits of the first count samples of a line that begins with these states and at run index `first`
unfoldable pub SamplesAreSpelled : Residuals → (ℕ → ContextState) → ℕ → ℕ → List Bool → ℕ → Type 0
SamplesAreSpelled line states first zero bits next = (bits ≡ []) × (next ≡ first)
SamplesAreSpelled line states first (suc count) bits next =
    (front : List Bool) × (back : List Bool) × (index : ℕ) × (bits ≡ front ++ back)
    × SamplesAreSpelled line states first count front index × SampleIsSpelled line (states_at_column line states count) count index back next

-- what a line leaves of the states of each group
abbrev pub states_with_line : RecordingValue → SliceHeader → List (List ℕ) → (ℕ → ℕ → ContextState) → Line → (ℕ → ℕ → ContextState)
states_with_line r header planes states line group =
    let coded = coded_line r header planes line in
    if group == group_of r line then states_at_column coded (states group) coded.width else states group

-- The bits of lines, from the states before them to those after them. The run index starts anew at the first row of each plane, and in RGB at
-- the slice's first line alone.
unfoldable pub LinesAreSpelled : RecordingValue → SliceHeader → List (List ℕ) → (ℕ → ℕ → ContextState) → ℕ → List Line → List Bool
    → (ℕ → ℕ → ContextState) → Type 0
LinesAreSpelled r header planes before index [] bits after = (bits ≡ []) × (after ≡ before)
LinesAreSpelled r header planes before index (line ∷ lines) bits after =
    (front : List Bool) × (back : List Bool) × (next : ℕ) × (bits ≡ front ++ back)
    × SamplesAreSpelled (coded_line r header planes line) (before (group_of r line))
    (if (line.row == 0) && (not r.is_rgb || (line.plane == 0)) then 0 else index) (coded_line r header planes line).width front next
    × LinesAreSpelled r header planes (states_with_line r header planes before line) next lines back after

-- of some states of each group, that of a context
abbrev pub state_in : (ℕ → List ContextState) → ℕ → ℕ → ContextState
state_in states group context = get_or (states group) context start_state

-- With coder_type 0 the codes begin at a whole byte (section 3.8.1.1.1), with the states before them, and leave those after them.
pub record AreSpelledPlanes (r : RecordingValue) (content : List ℕ) (header : SliceHeader) (start : Coder) (before : Option SliceStatesValue)
    (planes : List (List ℕ)) (after : GroupsOf ContextState) : Type 0 where
  pub coder : r.coder ≡ 0
  pub place : ℕ
  pub begin : BeginAt content start place
  pub words : List Bool
  pub rest : List Bool
  pub bits : bits_of (drop place content) ≡ words ++ rest
  pub last : ℕ → ℕ → ContextState
  pub spelled : LinesAreSpelled r header planes (state_in (codes_before r header.tables before)) 0 (lines_in_order r (plane_sizes r header)) words last
  pub left : (group context : ℕ) → group < 3 → context < length (codes_before r header.tables before group) → context < length (states_of_group after group)
      → state_in (states_of_group after) group context ≡ last group context

-- ---- slices

-- the planes are coded by either coder, and the states after them are of each context
abbrev pub AreCodedPlanes : RecordingValue → List ℕ → SliceHeader → Coder → Option SliceStatesValue → List (List ℕ) → SliceStatesValue → Type 0
AreCodedPlanes r content header start before planes (range_states after) =
    AreRangeCodedPlanes r header start before planes after × HaveGroupContexts r header.tables after
AreCodedPlanes r content header start before planes (rice_states after) =
    AreSpelledPlanes r content header start before planes after × HaveGroupContexts r header.tables after

-- the samples of a place in the first three planes
abbrev pub three_at : List (List ℕ) → ℕ → Samples
three_at planes s =
    let at : ℕ → ℤ = λ p. pos (slice_index (slice_plane_at planes p) s) in
    record { first = at 0; second = at 1; third = at 2 }

-- The coded planes are those of G, B and R (section 3.7.2), which have the bits of the depth; alpha is coded as it is.
pub record AreCodedOfColors (r : RecordingValue) (coded planes : List (List ℕ)) : Type 0 where
  pub count : length planes ≡ length coded
  pub long : (p : ℕ) → p < 3 → length (slice_plane_at planes p) ≡ length (slice_plane_at coded 0)
  pub small : (p s : ℕ) → p < 4 → slice_index (slice_plane_at planes p) s < 2 ^ r.depth
  pub colors : (s : ℕ) → s < length (slice_plane_at coded 0)
      → coded_of_colors r.depth (swapped (are_swapped r.depth r.has_alpha) (three_at planes s)) ≡ three_at coded s
  pub alpha : slice_plane_at planes 3 ≡ slice_plane_at coded 3

-- a decoded slice: its planes, and what it leaves to the slice of its number in the next frame, its header and its states
pub record SliceValue : Type 0 where
  pub planes : List (List ℕ)
  pub left : LeftValue

-- After the states before it (none, where it begins anew) the content is this slice.
pub record IsSlice (r : RecordingValue) (content : List ℕ) (first : Bool) (before : Option SliceStatesValue) (slice : SliceValue) : Type 0 where
  pub start : Coder
  pub begins : StartsWithHeader r content first slice.left.header start
  pub coded : List (List ℕ)
  pub sizes : ArePlanesOfSizes (coded_depth_of r) (plane_sizes r slice.left.header) coded
  pub are_coded : AreCodedPlanes r content slice.left.header start before coded slice.left.states
  pub are_planes : MatchBool r.is_rgb (AreCodedOfColors r coded slice.planes) (slice.planes ≡ coded)
