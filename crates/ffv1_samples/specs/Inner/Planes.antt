-- What private calls return of the picture's planes.
use Rattle.std.specs.Prelude.{◌≡◌, ℕ, ◌+◌, ◌*◌, ◌<◌, ◌≤◌, ◌^◌, true, List, [], ◌∷◌, length, slice_index, nat_lt, Option, Some, None, if◌then◌else◌}
use Rattle.ffv1_colors.specs.Planes.{ThreePlanes}
use Rattle.ffv1_range.specs.Setup.{RecordingValue}
use Rattle.ffv1_plane.specs.RangeSlices.{coded_depth_of}
use Rattle.ffv1_samples.specs.Pictures.{slice_plane_at, IsFirstSample}
use Rattle.ffv1_samples.specs.declared.colors.PlanesFault.{PlanesFault}
use Rattle.ffv1_samples.specs.declared.faults.SampleFault.TheVariants.{ColorTooLarge}
use Rattle.ffv1_samples.specs.declared.faults.SliceFault.{SliceFault}
use Rattle.ffv1_samples.specs.declared.faults.SliceFault.TheVariants.{Code}
use Rattle.ffv1_samples.specs.declared.faults.SliceFault.TheVariants as slice_faults
use Rattle.ffv1_samples.specs.declared.colors.PlanesFault.TheVariants.{Outside, Memory}

-- three planes of one size, and alpha of it or none
pub record AreThreePlanes (coded : List (List ℕ)) : Type 0 where
  pub count : 3 ≤ length coded
  pub most : length coded ≤ 4
  pub second : length (slice_plane_at coded 1) ≡ length (slice_plane_at coded 0)
  pub third : length (slice_plane_at coded 2) ≡ length (slice_plane_at coded 0)
  pub alpha : length (slice_plane_at coded 3) ≤ length (slice_plane_at coded 0)

-- Planes of so many bits, of one size where they are RGB.
pub record AreOfRecording (r : RecordingValue) (coded : List (List ℕ)) : Type 0 where
  pub small : (p s : ℕ) → slice_index (slice_plane_at coded p) s < 2 ^ coded_depth_of r
  pub three : r.is_rgb ≡ true → AreThreePlanes coded

-- Why coded planes are those of no picture.
abbrev pub IsPlanesFault : RecordingValue → List (List ℕ) → PlanesFault → Type 0
IsPlanesFault r coded (Outside place plane) = (r.is_rgb ≡ true) × IsFirstSample r coded place plane
IsPlanesFault r coded Memory = Unit {0}

-- the planes G, B and R, and that of alpha after them where there is one
abbrev pub colors_with_alpha : ThreePlanes → List (List ℕ) → List (List ℕ)
colors_with_alpha colors coded = colors.first ∷ colors.second ∷ colors.third ∷ (if nat_lt 3 (length coded) then slice_plane_at coded 3 ∷ [] else [])

-- the same, where the place is a row and a column
abbrev pub IsJudgedFault : RecordingValue → List (List ℕ) → ℕ → SliceFault → Type 0
IsJudgedFault r coded width (Code ColorTooLarge plane y x) = (r.is_rgb ≡ true) × (x < width) × IsFirstSample r coded (y * width + x) plane
IsJudgedFault r coded width slice_faults.Memory = Unit {0}
IsJudgedFault r coded width other = ⊥

-- a colour's sample, or one of alpha before its place
abbrev pub first_outside : ℕ → ℕ → Option ℕ → PlanesFault
first_outside place plane (Some alpha) = if nat_lt alpha place then Outside alpha 3 else Outside place plane
first_outside place plane None = Outside place plane
