-- A payload of the profile has at most one fault, and none if it is a frame.
use Rattle.std.specs.Prelude.{◌≡◌, ◌≢◌, ℕ, List}
use Rattle.ffv1_range.specs.Setup.{SetupValue, IsInProfile}
use Rattle.ffv1_picture.specs.WholePicture.{Planes}
use Rattle.ffv1_picture.specs.Frames.{SpellsPictures}
use Rattle.ffv1_picture.specs.FrameFaults.{IsFirstFault}
use Rattle.ffv1_picture.specs.declared.fault.FrameFault.{FrameFault}
use Rattle.ffv1_picture.specs.declared.fault.FrameFault.TheVariants.{Memory}

-- A payload that spells pictures has no fault, and none has two.
pub record FaultIsOne (setup : SetupValue) (payload : List ℕ) : Type 0 where
  pub refused_has_no_frame : (pictures : List Planes) (fault : FrameFault) → SpellsPictures setup payload pictures → IsFirstFault setup payload fault → fault ≡ Memory
  pub one_fault : (fault other : FrameFault) → fault ≢ Memory → other ≢ Memory → IsFirstFault setup payload fault → IsFirstFault setup payload other
      → fault ≡ other

abbrev pub FaultsOfFramesAreOne : Type 0
FaultsOfFramesAreOne = (setup : SetupValue) (payload : List ℕ) → IsInProfile setup → FaultIsOne setup payload
