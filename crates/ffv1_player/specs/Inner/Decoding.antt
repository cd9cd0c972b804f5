-- A frame on its way: the pictures of its slices so far.
use Rattle.std.specs.Prelude.{◌≡◌, ◌==◌, ℕ, ◌<◌, List, length, map, slice_index_or}
use Rattle.ffv1_range.specs.Setup.{RecordingValue}
use Rattle.ffv1_range.specs.SliceHeader.{IsSliceHeaderOf}
use Rattle.ffv1_range.specs.declared.head.SliceHeader.{SliceHeader}
use Rattle.ffv1_range.specs.declared.head.SliceStart.{SliceStart}
use Rattle.ffv1_slice.specs.declared.slice.LinkFault.TheVariants as link_faults
use Rattle.ffv1_layout.specs.Cuts.{FitFooters}
use Rattle.ffv1_layout.specs.Layout.{listed_slice, header_at}
use Rattle.ffv1_samples.specs.States.{FitSliceBefore}
use Rattle.ffv1_samples.specs.Slices.{SlicePictureValue, IsSlicePicture}
use Rattle.ffv1_samples.specs.Faults.{IsSliceFault}
use Rattle.ffv1_samples.specs.declared.faults.SliceFault.{SliceFault}
use Rattle.ffv1_samples.specs.declared.faults.SliceFault.TheVariants as slice_faults
use Rattle.ffv1_player.specs.Frames.{LeftValue, left_by, slice_end_of, states_left_at, frame_planes}
use Rattle.ffv1_player.specs.Faults.{slice_fault}
use Rattle.ffv1_player.specs.Players.{left_values}
use Rattle.ffv1_player.specs.declared.drawn.DrawnFrame.{DrawnFrame}
use Rattle.ffv1_player.specs.declared.fault.ContentFault.{ContentFault}
use Rattle.ffv1_player.specs.declared.fault.ContentFault.TheVariants as content_faults
use Rattle.ffv1_player.specs.declared.fault.SamplesFault.{SamplesFault}
use Rattle.ffv1_player.specs.declared.fault.SamplesFault.TheVariants.{Slice, Content, Memory}

-- The contents before a place have these pictures.
pub record ArePictures (r : RecordingValue) (contents : List (List ℕ)) (before : List LeftValue) (pictures : List SlicePictureValue) (count : ℕ) : Type 0 where
  pub long : length pictures ≡ count
  pub each : (place : ℕ) (d : SlicePictureValue) → place < count
      → IsSlicePicture r (listed_slice contents place) (place == 0) (states_left_at before place) (slice_index_or pictures place d)

-- What was drawn of a frame are these pictures.
pub record IsDrawn (r : RecordingValue) (pictures : List SlicePictureValue) (frame : DrawnFrame) : Type 0 where
  pub planes : map (λ plane. plane.items) frame.planes.items ≡ frame_planes r pictures
  pub slices : frame.slices.items ≡ map slice_end_of pictures
  pub left : left_values frame.left.items ≡ map left_by pictures

-- A content begins with this header.
abbrev pub BeginsWithHeader : RecordingValue → List (List ℕ) → List SliceHeader → ℕ → Type 0
BeginsWithHeader r contents headers place =
    (start : SliceStart) × IsSliceHeaderOf r (listed_slice contents place) (place == 0) (header_at headers place) start

-- Contents with these headers can be decoded with the states that the frame before has left.
pub record CanBegin (r : RecordingValue) (contents : List (List ℕ)) (headers : List SliceHeader) (before : List LeftValue) : Type 0 where
  pub short : FitFooters contents
  pub begin : (place : ℕ) → place < length contents → BeginsWithHeader r contents headers place
  pub fit : (place : ℕ) → place < length contents → FitSliceBefore r (header_at headers place).tables (states_left_at before place)

-- The contents before a place have pictures, and these were drawn.
pub record AreDrawn (r : RecordingValue) (contents : List (List ℕ)) (before : List LeftValue) (count : ℕ) (frame : DrawnFrame) : Type 0 where
  pub pictures : List SlicePictureValue
  pub have : ArePictures r contents before pictures count
  pub drawn : IsDrawn r pictures frame

-- the fault of the slice at a place
abbrev pub fault_of_slice : ℕ → SliceFault → SamplesFault
fault_of_slice place (slice_faults.Code fault plane y x) = Content place (content_faults.Code fault plane y x)
fault_of_slice place slice_faults.End = Content place content_faults.End
fault_of_slice place (slice_faults.Head fault) = Slice place (link_faults.Head fault)
fault_of_slice place slice_faults.Memory = Memory

-- A content has no picture, and each before it has one.
pub record IsContentFault (r : RecordingValue) (contents : List (List ℕ)) (before : List LeftValue) (fault : SamplesFault) : Type 0 where
  pub place : ℕ
  pub cause : ContentFault
  pub is : fault ≡ Content place cause
  pub inside : place < length contents
  pub pictures : List SlicePictureValue
  pub have : ArePictures r contents before pictures place
  pub refused : IsSliceFault r (listed_slice contents place) (place == 0) (states_left_at before place) (slice_fault cause)
