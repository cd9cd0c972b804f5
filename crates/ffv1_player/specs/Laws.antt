-- A payload has at most one frame after the frame before, at most one fault, and never both.
use Rattle.std.specs.Prelude.{◌≡◌, ◌≢◌, ℕ, List, Option}
use Rattle.ffv1_range.specs.Setup.{RecordingValue, IsInVersion3}
use Rattle.ffv1_player.specs.Frames.{LeftValue, IsPlayedFrame, IsSameFrame}
use Rattle.ffv1_player.specs.Faults.{IsFirstSamplesFault}
use Rattle.ffv1_player.specs.Fitting.{FitLast}
use Rattle.ffv1_player.specs.declared.samples.Samples.{Samples}
use Rattle.ffv1_player.specs.declared.fault.SamplesFault.{SamplesFault}
use Rattle.ffv1_player.specs.declared.fault.SamplesFault.TheVariants.{Memory}

-- Of a recording of version 3, after what a player's frame before has left: no payload has two frames; one that has it has no fault; and none has two.
pub record PlayedFrameIsOne (r : RecordingValue) (last : Option (List LeftValue)) (payload : List ℕ) : Type 0 where
  pub one_frame : (frame other : Samples) (left more : List LeftValue) → IsPlayedFrame r last payload frame left → IsPlayedFrame r last payload other more
      → IsSameFrame other frame
  pub refused_has_no_frame : (frame : Samples) (left : List LeftValue) (fault : SamplesFault) → IsPlayedFrame r last payload frame left
      → IsFirstSamplesFault r last payload fault → fault ≡ Memory
  pub one_fault : (fault other : SamplesFault) → fault ≢ Memory → other ≢ Memory → IsFirstSamplesFault r last payload fault
      → IsFirstSamplesFault r last payload other → fault ≡ other

abbrev pub PlayedFramesAreOne : Type 0
PlayedFramesAreOne = (r : RecordingValue) (last : Option (List LeftValue)) (payload : List ℕ) → IsInVersion3 r → FitLast r last → PlayedFrameIsOne r last payload
