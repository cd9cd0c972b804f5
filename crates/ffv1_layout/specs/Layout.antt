-- How the slices of a frame lie in it (RFC 9043, sections 4.5, 4.6 and 5): each has a header, and each tile is in one slice and only in one.
use Rattle.std.specs.Prelude.{◌≡◌, ◌≢◌, ℕ, ◌+◌, ◌*◌, ◌<◌, ◌≤◌, ◌==◌, Bool, List, [], length, map, slice_index_or, Option, None, Err}
use Rattle.ffv1_bits.specs.Parity.{PassesParity}
use Rattle.ffv1_range.specs.Setup.{RecordingValue}
use Rattle.ffv1_range.specs.Tiles.{grid_of, tile_count}
use Rattle.ffv1_range.specs.SliceHeader.{IsSliceHeaderOf, slice_header_read}
use Rattle.ffv1_range.specs.declared.head.SliceHeader.{SliceHeader}
use Rattle.ffv1_range.specs.declared.head.SliceStart.{SliceStart}
use Rattle.ffv1_slice.specs.declared.slice.LinkFault.{LinkFault}
use Rattle.ffv1_slice.specs.declared.slice.LinkFault.TheVariants.{Parity, Head}
use Rattle.ffv1_layout.specs.Cuts.{AreSlicesOf, slice_content, slice_status}
use Rattle.ffv1_layout.specs.declared.layout.PlacedSlice.{PlacedSlice}
use Rattle.ffv1_layout.specs.declared.fault.LayoutFault.{LayoutFault}
use Rattle.ffv1_layout.specs.declared.fault.LayoutFault.TheVariants.{Chain, Slice, Overlap, Uncovered, Memory}

-- ---- headers

-- With ec 1 nothing is left of the slice by its parity (section 4.9.3). With ec 0 nothing is asked of it.
abbrev pub KeepsParity : RecordingValue → List ℕ → Type 0
KeepsParity r slice = r.setup.ec ≢ 0 → PassesParity slice

-- The slice keeps its parity, and its content begins with this header: after the keyframe bit, where it is the payload's first.
pub record HasSliceHeader (r : RecordingValue) (slice : List ℕ) (first : Bool) (header : SliceHeader) : Type 0 where
  pub parity : KeepsParity r slice
  pub start : SliceStart
  pub is_header : IsSliceHeaderOf r (slice_content r slice) first header start

-- why a slice has none
abbrev pub HasNoSliceHeader : RecordingValue → List ℕ → Bool → LinkFault → Type 0
HasNoSliceHeader r slice first Parity = ¬ KeepsParity r slice
HasNoSliceHeader r slice first (Head fault) = KeepsParity r slice × (slice_header_read r (slice_content r slice) first ≡ Err fault)

-- of some slices, and of their headers, the one at a place
abbrev pub listed_slice : List (List ℕ) → ℕ → List ℕ
listed_slice slices place = slice_index_or slices place []

abbrev pub no_header : SliceHeader
no_header = record { x = 0; y = 0; w = 0; h = 0; tables = []; picture_structure = 0; sar_num = 0; sar_den = 0; key = None }

abbrev pub header_at : List SliceHeader → ℕ → SliceHeader
header_at headers place = slice_index_or headers place no_header

-- the slices before a place have these headers
abbrev pub HaveHeaders : RecordingValue → List (List ℕ) → List SliceHeader → ℕ → Type 0
HaveHeaders r slices headers count = (place : ℕ) → place < count → HasSliceHeader r (listed_slice slices place) (place == 0) (header_at headers place)

-- ---- tiles, which are counted row by row

-- The slice of this header has a tile: it lies in its columns and in its rows (section 4.6).
pub record HasTile (across : ℕ) (header : SliceHeader) (tile : ℕ) : Type 0 where
  pub column : ℕ
  pub row : ℕ
  pub place : tile ≡ row * across + column
  pub right_of : header.x ≤ column
  pub left_of : column < header.x + header.w
  pub below : header.y ≤ row
  pub above : row < header.y + header.h

abbrev pub SharesTile : ℕ → SliceHeader → SliceHeader → Type 0
SharesTile across a b = (tile : ℕ) × HasTile across a tile × HasTile across b tile

-- Of the slices before a place none has a tile of one before it.
abbrev pub AreApart : ℕ → List SliceHeader → ℕ → Type 0
AreApart across headers count = (k j : ℕ) → k < count → j < k → ¬ SharesTile across (header_at headers j) (header_at headers k)

-- some slice before a place has the tile
abbrev pub IsInSlice : ℕ → List SliceHeader → ℕ → ℕ → Type 0
IsInSlice across headers count tile = (place : ℕ) × (place < count) × HasTile across (header_at headers place) tile

-- ---- frames

-- The payload is these slices, they have these headers, and each tile is in one of them and only in one.
pub record IsLaidOut (r : RecordingValue) (payload : List ℕ) (slices : List (List ℕ)) (headers : List SliceHeader) : Type 0 where
  pub are_slices : AreSlicesOf r payload slices
  pub count : length headers ≡ length slices
  pub each : HaveHeaders r slices headers (length slices)
  pub apart : AreApart r.setup.across headers (length slices)
  pub covered : (tile : ℕ) → tile < tile_count (grid_of r.setup) → IsInSlice r.setup.across headers (length slices) tile

abbrev pub headers_of : List PlacedSlice → List SliceHeader
headers_of placed = map (λ slice. slice.header) placed

abbrev pub contents_of : List PlacedSlice → List (List ℕ)
contents_of placed = map (λ slice. slice.content.now) placed

abbrev pub statuses_of : List PlacedSlice → List (Option ℕ)
statuses_of placed = map (λ slice. slice.status) placed

-- of some statuses, the one at a place
abbrev pub status_at : List (Option ℕ) → ℕ → Option ℕ
status_at statuses place = slice_index_or statuses place None

-- The slices of a frame with their contents, headers and error statuses.
pub record IsLayoutOf (r : RecordingValue) (payload : List ℕ) (placed : List PlacedSlice) : Type 0 where
  pub slices : List (List ℕ)
  pub laid_out : IsLaidOut r payload slices (headers_of placed)
  pub contents : (place : ℕ) → place < length slices → listed_slice (contents_of placed) place ≡ slice_content r (listed_slice slices place)
  pub statuses : (place : ℕ) → place < length slices → status_at (statuses_of placed) place ≡ slice_status r (listed_slice slices place)

-- The first fault of a payload: its chain; then for each place upwards its slice's parity and header; then the least place whose slice has a
-- tile of one before it; then the least tile that is in no slice.
abbrev pub IsFirstLayoutFault : RecordingValue → List ℕ → LayoutFault → Type 0
IsFirstLayoutFault r payload Chain = (slices : List (List ℕ)) → ¬ AreSlicesOf r payload slices
IsFirstLayoutFault r payload (Slice place cause) =
    (slices : List (List ℕ)) × (headers : List SliceHeader) × AreSlicesOf r payload slices × (place < length slices)
    × HaveHeaders r slices headers place × HasNoSliceHeader r (listed_slice slices place) (place == 0) cause
IsFirstLayoutFault r payload (Overlap place) =
    (slices : List (List ℕ)) × (headers : List SliceHeader) × AreSlicesOf r payload slices × (place < length slices)
    × HaveHeaders r slices headers (length slices) × AreApart r.setup.across headers place
    × ((other : ℕ) × (other < place) × SharesTile r.setup.across (header_at headers other) (header_at headers place))
IsFirstLayoutFault r payload (Uncovered tile) =
    (slices : List (List ℕ)) × (headers : List SliceHeader) × AreSlicesOf r payload slices × (tile < tile_count (grid_of r.setup))
    × HaveHeaders r slices headers (length slices) × AreApart r.setup.across headers (length slices)
    × ¬ IsInSlice r.setup.across headers (length slices) tile
    × ((lesser : ℕ) → lesser < tile → IsInSlice r.setup.across headers (length slices) lesser)
IsFirstLayoutFault r payload Memory = Unit {0}

-- ---- a law

-- No payload is laid out in two ways; one that is has no fault, and none has two.
pub record OneLayout : Type 0 where
  pub one : (r : RecordingValue) (payload : List ℕ) (slices others : List (List ℕ)) (headers more : List SliceHeader)
      → IsLaidOut r payload slices headers → IsLaidOut r payload others more → (slices ≡ others) × (headers ≡ more)
  pub no_fault : (r : RecordingValue) (payload : List ℕ) (slices : List (List ℕ)) (headers : List SliceHeader) (fault : LayoutFault)
      → IsLaidOut r payload slices headers → IsFirstLayoutFault r payload fault → fault ≡ Memory
  pub one_fault : (r : RecordingValue) (payload : List ℕ) (fault other : LayoutFault) → fault ≢ Memory → other ≢ Memory → IsFirstLayoutFault r payload fault
      → IsFirstLayoutFault r payload other → fault ≡ other
