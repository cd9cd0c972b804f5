-- A frame of any recording and its samples, from its payload: what is decoded, and no word of faults or of their order (RFC 9043, sections
-- 3.8.1.3, 3.8.2.4 and 4.4 to 4.9). `Player::decode` returns exactly these frames.
use Rattle.std.specs.Prelude.{◌≡◌, ℕ, ◌+◌, ◌-◌, ◌*◌, ◌^◌, ◌<◌, ◌≤◌, ◌==◌, Bool, true, false, List, [], ◌∷◌, map, length, Option, Some, None, slice_get, slice_index_or, fold, if◌then◌else◌}
use Rattle.std.specs.List.{flat_map, range_with_len}
use Rattle.ffv1_range.specs.Setup.{RecordingValue}
use Rattle.ffv1_range.specs.declared.head.SliceHeader.{SliceHeader}
use Rattle.ffv1_layout.specs.Cuts.{footer_length, AreCutAt, slice_content}
use Rattle.ffv1_layout.specs.Layout.{KeepsParity, header_at, listed_slice}
use Rattle.ffv1_samples.specs.States.{SliceStatesValue, count_of_planes}
use Rattle.ffv1_samples.specs.Pictures.{slice_plane_at}
use Rattle.ffv1_picture.specs.WholePicture.{covers, sample_in}
use Rattle.ffv1_player.specs.Frames.{planes_of_samples, LeftValue, SliceGoesOn}
use Rattle.ffv1_player.specs.SmallSlices.{slice_area, area_in, SliceValue, IsSlice}
use Rattle.ffv1_player.specs.declared.samples.Samples.{Samples}

-- ---- the slices of a payload

abbrev pub slice_headers : List SliceValue → List SliceHeader
slice_headers values = map (λ value. value.left.header) values

-- The slice has the tile of this column and row (section 4.6).
abbrev pub HasTileAt : SliceHeader → ℕ → ℕ → Type 0
HasTileAt header column row = (header.x ≤ column) × (column < header.x + header.w) × (header.y ≤ row) × (row < header.y + header.h)

-- Each tile of the frame is in one of the slices, and only in one (section 5).
abbrev pub HaveEachTile : RecordingValue → List SliceHeader → Type 0
HaveEachTile r headers =
    (column row : ℕ) → column < r.setup.across → row < r.setup.down
    → (place : ℕ) × (place < length headers) × HasTileAt (header_at headers place) column row
    × ((other : ℕ) → other < length headers → HasTileAt (header_at headers other) column row → other ≡ place)

-- With what a slice begins: in a keyframe with nothing; else with the states that the slice of its number in the frame before has left, which has the
-- same tiles and table sets (sections 3.8.1.3 and 3.8.2.4).
abbrev pub BeginsWithStates : RecordingValue → Bool → List LeftValue → ℕ → SliceHeader → Option SliceStatesValue → Type 0
BeginsWithStates r true before place header states = states ≡ None
BeginsWithStates r false before place header states =
    (left : LeftValue) × (slice_get before place ≡ Some left) × SliceGoesOn r header left.header × (states ≡ Some left.states)

-- The bytes are the slice at this place of a frame: they keep their parity, and their content is this slice.
pub record IsSliceAt (r : RecordingValue) (key : Bool) (before : List LeftValue) (place : ℕ) (bytes : List ℕ) (slice : SliceValue) : Type 0 where
  pub parity : KeepsParity r bytes
  pub states : Option SliceStatesValue
  pub begins : BeginsWithStates r key before place slice.left.header states
  pub is : IsSlice r (slice_content r bytes) (place == 0) states slice

-- ---- the planes of a frame

-- a sample, where another stood at its place: that of the slice, if this covers it
abbrev pub sample_over : RecordingValue → ℕ → ℕ → ℕ → ℕ → SliceValue → ℕ
sample_over r p x y other slice =
    let area = area_in r p (slice_area r.setup slice.left.header) in
    if covers area x y then sample_in area (slice_plane_at slice.planes p) x y else other

-- A plane of the frame, row by row: where slices overlap the last one has the place, and where none is a sample is 2 ^ (depth - 1) (own).
abbrev pub plane_of_slices : RecordingValue → List SliceValue → ℕ → List ℕ
plane_of_slices r slices p =
    let whole = area_in r p (record { x = 0; y = 0; w = r.setup.width; h = r.setup.height }) in
    flat_map (λ y. map (λ x. fold (sample_over r p x y) (2 ^ (r.depth - 1)) slices) (range_with_len 0 whole.w)) (range_with_len 0 whole.h)

-- ---- frames

-- The payload is this frame, which leaves this, after what the frame before has left (none, where none was decoded).
pub record IsFrame (r : RecordingValue) (last : Option (List LeftValue)) (payload : List ℕ) (frame : Samples) (left : List LeftValue) : Type 0 where
  pub pieces : List (List ℕ)
  pub cut : AreCutAt (footer_length r.setup.ec) payload (length payload) pieces
  pub few : length pieces ≤ r.setup.across * r.setup.down
  pub before : List LeftValue
  pub goes_on : frame.key ≡ false → (last ≡ Some before) × (length before ≡ length pieces)
  pub slices : List SliceValue
  pub count : length slices ≡ length pieces
  pub each : (place : ℕ) (d : SliceValue) → place < length pieces
      → IsSliceAt r frame.key before place (listed_slice pieces place) (slice_index_or slices place d)
  pub tiles : HaveEachTile r (slice_headers slices)
  pub key : (header_at (slice_headers slices) 0).key ≡ Some frame.key
  pub width : frame.width ≡ r.setup.width
  pub height : frame.height ≡ r.setup.height
  pub depth : frame.depth ≡ r.depth
  pub planes : planes_of_samples frame ≡ map (plane_of_slices r slices) (range_with_len 0 (count_of_planes r))
  pub is_left : left ≡ map (λ slice. slice.left) slices

-- Each payload is its frame, after what the one before it has left.
abbrev pub AreFramesInTurn : RecordingValue → Option (List LeftValue) → List (List ℕ) → List Samples → Type 0
AreFramesInTurn r last [] [] = Unit {0}
AreFramesInTurn r last (payload ∷ payloads) (frame ∷ frames) =
    (left : List LeftValue) × IsFrame r last payload frame left × AreFramesInTurn r (Some left) payloads frames
AreFramesInTurn r last _ _ = ⊥
