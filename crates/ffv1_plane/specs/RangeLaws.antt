-- What the definition of coded planes gives: a law over the definitions alone.
use Rattle.std.specs.Prelude.{◌≡◌, ℕ, ◌<◌, true, List, length}
use Rattle.ffv1_range.specs.Coding.{Mode, Coder}
use Rattle.ffv1_range.specs.Setup.{RecordingValue, IsInVersion3}
use Rattle.ffv1_plane.specs.RangeSlices.{slice_shape, height_at, ArePlanesCoded, AreLinesStuck}
use Rattle.ffv1_plane.specs.declared.range_rows.DifferenceFault.{DifferenceFault}
use Rattle.ffv1_plane.specs.RangeReading.{IsPlaneSize}
use Rattle.ffv1_plane.specs.declared.planes.PlaneSize.{PlaneSize}
use Rattle.std.specs.List.{All}

-- The rows of RGB are as many in each plane.
abbrev pub HaveEqualRows : RecordingValue → List PlaneSize → Type 0
HaveEqualRows r sizes = r.is_rgb ≡ true → (p : ℕ) → p < length sizes → height_at sizes p ≡ height_at sizes 0

-- From one place and states no content codes two lists of planes, and it codes them up to one place.
abbrev pub OneRangeReading : Type 0
OneRangeReading =
    (r : RecordingValue) (sets : List ℕ) (sizes : List PlaneSize) (mode : Mode) (start end last : Coder) (before after later : ℕ → List (List ℕ))
    (planes others : List (List ℕ)) → IsInVersion3 r → All IsPlaneSize sizes → HaveEqualRows r sizes
    → ArePlanesCoded mode (slice_shape r sets sizes) start before planes end after → ArePlanesCoded mode (slice_shape r sets sizes) start before others last later
    → (planes ≡ others) × (end ≡ last)

-- A content that is stuck codes no planes.
abbrev pub StuckRangeCodesNothing : Type 0
StuckRangeCodesNothing =
    (r : RecordingValue) (sets : List ℕ) (sizes : List PlaneSize) (mode : Mode) (start end : Coder) (before after : ℕ → List (List ℕ)) (fault : DifferenceFault)
    (plane row x : ℕ) (planes : List (List ℕ)) → IsInVersion3 r → All IsPlaneSize sizes
    → AreLinesStuck mode (slice_shape r sets sizes) start before fault plane row x → ArePlanesCoded mode (slice_shape r sets sizes) start before planes end after → ⊥

-- A content that is stuck is so with one fault and at one sample.
pub record IsOneRangePlace (fault other : DifferenceFault) (plane level y v x u : ℕ) : Type 0 where
  pub fault_same : fault ≡ other
  pub plane_same : plane ≡ level
  pub row_same : y ≡ v
  pub column_same : x ≡ u

abbrev pub StuckRangeIsOne : Type 0
StuckRangeIsOne =
    (r : RecordingValue) (sets : List ℕ) (sizes : List PlaneSize) (mode : Mode) (start : Coder) (before : ℕ → List (List ℕ)) (fault other : DifferenceFault)
    (plane level row v x u : ℕ) → IsInVersion3 r → All IsPlaneSize sizes → AreLinesStuck mode (slice_shape r sets sizes) start before fault plane row x
    → AreLinesStuck mode (slice_shape r sets sizes) start before other level v u → IsOneRangePlace fault other plane level row v x u
