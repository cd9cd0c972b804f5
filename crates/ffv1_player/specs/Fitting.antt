-- What slices leave, where it serves those of the next frame (RFC 9043, sections 3.8.1.3 and 3.8.2.4).
use Rattle.std.specs.Prelude.{◌≡◌, ℕ, List, Option, Some, None, slice_get}
use Rattle.ffv1_range.specs.Setup.{RecordingValue}
use Rattle.ffv1_samples.specs.States.{FitSlice}
use Rattle.ffv1_player.specs.Frames.{LeftValue}

-- What slices leave has the states that their headers ask for.
abbrev pub FitLeft : RecordingValue → List LeftValue → Type 0
FitLeft r left = (place : ℕ) (slice : LeftValue) → slice_get left place ≡ Some slice → FitSlice r slice.header.tables slice.states

abbrev pub FitLast : RecordingValue → Option (List LeftValue) → Type 0
FitLast r None = Unit {0}
FitLast r (Some left) = FitLeft r left
