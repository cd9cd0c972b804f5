-- What the definitions of a slice's picture and of its faults give: laws over the definitions alone.
use Rattle.std.specs.Prelude.{◌≡◌, ℕ, Bool, List, Option}
use Rattle.ffv1_range.specs.Setup.{RecordingValue, IsInVersion3}
use Rattle.ffv1_samples.specs.States.{SliceStatesValue}
use Rattle.ffv1_samples.specs.Slices.{SlicePictureValue, IsSlicePicture, IsSamePicture, FitContent}
use Rattle.ffv1_samples.specs.Faults.{IsSliceFault}
use Rattle.ffv1_samples.specs.declared.faults.SliceFault.{SliceFault}

-- After states that fit it, no content of a slice has two pictures.
abbrev pub OneSlicePicture : Type 0
OneSlicePicture =
    (r : RecordingValue) (content : List ℕ) (first : Bool) (before : Option SliceStatesValue) (picture other : SlicePictureValue) → IsInVersion3 r → FitContent r content first before
    → IsSlicePicture r content first before picture → IsSlicePicture r content first before other → IsSamePicture r picture other

-- A content that is refused has no picture ..
abbrev pub RefusedHasNoPicture : Type 0
RefusedHasNoPicture =
    (r : RecordingValue) (content : List ℕ) (first : Bool) (before : Option SliceStatesValue) (fault : SliceFault) (picture : SlicePictureValue) → IsInVersion3 r → FitContent r content first before
    → IsSliceFault r content first before fault → IsSlicePicture r content first before picture → ⊥

-- .. and is refused for one fault.
abbrev pub RefusedForOne : Type 0
RefusedForOne =
    (r : RecordingValue) (content : List ℕ) (first : Bool) (before : Option SliceStatesValue) (fault other : SliceFault) → IsInVersion3 r → FitContent r content first before
    → IsSliceFault r content first before fault → IsSliceFault r content first before other → fault ≡ other
