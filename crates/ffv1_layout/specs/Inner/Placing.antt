-- Slices that are read one after the other.
use Rattle.std.specs.Prelude.{◌≡◌, ℕ, ◌<◌, ◌≤◌, ◌==◌, Bool, List, length}
use Rattle.ffv1_range.specs.Setup.{RecordingValue}
use Rattle.ffv1_layout.specs.Cuts.{slice_content, slice_status}
use Rattle.ffv1_layout.specs.Layout.{HasSliceHeader, HasNoSliceHeader, HaveHeaders, headers_of, contents_of, statuses_of, status_at, listed_slice}
use Rattle.ffv1_range.specs.declared.head.SliceHeader.{SliceHeader}
use Rattle.ffv1_layout.specs.declared.layout.PlacedSlice.{PlacedSlice}
use Rattle.ffv1_layout.specs.declared.fault.LayoutFault.{LayoutFault}
use Rattle.ffv1_layout.specs.declared.fault.LayoutFault.TheVariants.{Slice, Memory}

-- each slice has room for its footer
abbrev pub HaveFooters : ℕ → List (List ℕ) → Type 0
HaveFooters footer slices = (place : ℕ) → place < length slices → footer ≤ length (listed_slice slices place)

-- a slice was placed
pub record IsPlacedSlice (r : RecordingValue) (slice : List ℕ) (first : Bool) (placed : PlacedSlice) : Type 0 where
  pub header : HasSliceHeader r slice first placed.header
  pub content : placed.content.now ≡ slice_content r slice
  pub status : placed.status ≡ slice_status r slice

-- the first slices were placed
pub record ArePlaced (r : RecordingValue) (slices : List (List ℕ)) (count : ℕ) (placed : List PlacedSlice) : Type 0 where
  pub long : length placed ≡ count
  pub headers : HaveHeaders r slices (headers_of placed) count
  pub contents : (place : ℕ) → place < count → listed_slice (contents_of placed) place ≡ slice_content r (listed_slice slices place)
  pub statuses : (place : ℕ) → place < count → status_at (statuses_of placed) place ≡ slice_status r (listed_slice slices place)

-- why not all were
abbrev pub IsFirstUnplaced : RecordingValue → List (List ℕ) → LayoutFault → Type 0
IsFirstUnplaced r slices (Slice place cause) =
    (headers : List SliceHeader) × (place < length slices) × HaveHeaders r slices headers place × HasNoSliceHeader r (listed_slice slices place) (place == 0) cause
IsFirstUnplaced r slices Memory = Unit {0}
IsFirstUnplaced r slices fault = ⊥
