-- Why a payload gives no samples: its first fault.
use Rattle.std.specs.Prelude.{◌≡◌, ◌⊎◌, ◌==◌, ℕ, ◌<◌, false, List, length, Option, Some, None}
use Rattle.ffv1_range.specs.Setup.{RecordingValue}
use Rattle.ffv1_range.specs.declared.head.SliceHeader.{SliceHeader}
use Rattle.ffv1_layout.specs.Cuts.{slice_content}
use Rattle.ffv1_layout.specs.Layout.{listed_slice, IsLaidOut, IsFirstLayoutFault}
use Rattle.ffv1_layout.specs.declared.fault.LayoutFault.{LayoutFault}
use Rattle.ffv1_layout.specs.declared.fault.LayoutFault.TheVariants as layout_faults
use Rattle.ffv1_samples.specs.Slices.{SlicePictureValue}
use Rattle.ffv1_samples.specs.Faults.{IsSliceFault}
use Rattle.ffv1_samples.specs.declared.faults.SliceFault.{SliceFault}
use Rattle.ffv1_samples.specs.declared.faults.SliceFault.TheVariants as slice_faults
use Rattle.ffv1_player.specs.Frames.{LeftValue, is_key, HasEqual, BeginsWith, states_left_at, HavePictures}
use Rattle.ffv1_player.specs.declared.fault.ContentFault.{ContentFault}
use Rattle.ffv1_player.specs.declared.fault.ContentFault.TheVariants as content_faults
use Rattle.ffv1_player.specs.declared.fault.SamplesFault.{SamplesFault}
use Rattle.ffv1_player.specs.declared.fault.SamplesFault.TheVariants.{Chain, Slice, Overlap, Uncovered, Previous, Content, Memory}

abbrev pub fault_of_layout : LayoutFault → SamplesFault
fault_of_layout layout_faults.Chain = Chain
fault_of_layout (layout_faults.Slice place cause) = Slice place cause
fault_of_layout (layout_faults.Overlap place) = Overlap place
fault_of_layout (layout_faults.Uncovered tile) = Uncovered tile
fault_of_layout layout_faults.Memory = Memory

-- the fault of a slice as that of its content
abbrev pub slice_fault : ContentFault → SliceFault
slice_fault (content_faults.Code fault plane y x) = slice_faults.Code fault plane y x
slice_fault content_faults.End = slice_faults.End

-- The frame is no keyframe and can't go on from the frame before: there is none; or this is the least place of a slice without an equal there; or each has one, and
-- there are more.
abbrev pub IsFirstStop : RecordingValue → List SliceHeader → Option (List LeftValue) → ℕ → Type 0
IsFirstStop r headers None place = place ≡ 0
IsFirstStop r headers (Some before) place =
    ((earlier : ℕ) → earlier < place → HasEqual r headers before earlier)
    × (((place < length headers) × ¬ HasEqual r headers before place) ⊎ ((place ≡ length headers) × (length headers < length before)))

-- The first fault: those of the layout; then the frame before; then for each place upwards the content of its slice.
abbrev pub IsFirstSamplesFault : RecordingValue → Option (List LeftValue) → List ℕ → SamplesFault → Type 0
IsFirstSamplesFault r last payload Chain = IsFirstLayoutFault r payload layout_faults.Chain
IsFirstSamplesFault r last payload (Slice place cause) = IsFirstLayoutFault r payload (layout_faults.Slice place cause)
IsFirstSamplesFault r last payload (Overlap place) = IsFirstLayoutFault r payload (layout_faults.Overlap place)
IsFirstSamplesFault r last payload (Uncovered tile) = IsFirstLayoutFault r payload (layout_faults.Uncovered tile)
IsFirstSamplesFault r last payload (Previous place) =
    (slices : List (List ℕ)) × (headers : List SliceHeader) × IsLaidOut r payload slices headers × (is_key headers ≡ false) × IsFirstStop r headers last place
IsFirstSamplesFault r last payload (Content place cause) =
    (slices : List (List ℕ)) × (headers : List SliceHeader) × IsLaidOut r payload slices headers
    × ((before : List LeftValue) × BeginsWith r headers last before
    × ((pictures : List SlicePictureValue) × HavePictures r slices before pictures place)
    × (place < length slices)
    × IsSliceFault r (slice_content r (listed_slice slices place)) (place == 0) (states_left_at before place) (slice_fault cause))
IsFirstSamplesFault r last payload Memory = Unit {0}
