-- A player between frames.
use Rattle.std.specs.Prelude.{◌≡◌, ℕ, false, List, Option}
use Rattle.ffv1_range.specs.Setup.{RecordingValue}
use Rattle.ffv1_range.specs.declared.head.SliceHeader.{SliceHeader}
use Rattle.ffv1_player.specs.Frames.{LeftValue, is_key}
use Rattle.ffv1_player.specs.Faults.{IsFirstStop}
use Rattle.ffv1_player.specs.declared.fault.SamplesFault.{SamplesFault}
use Rattle.ffv1_player.specs.declared.fault.SamplesFault.TheVariants.{Previous}

-- Why a frame that is no keyframe can't go on.
pub record IsPreviousStop (r : RecordingValue) (headers : List SliceHeader) (last : Option (List LeftValue)) (fault : SamplesFault) : Type 0 where
  pub place : ℕ
  pub is : fault ≡ Previous place
  pub no_key : is_key headers ≡ false
  pub first : IsFirstStop r headers last place
