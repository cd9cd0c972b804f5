-- Configuration records as a command reads them.
use Rattle.std.specs.Prelude.{ℕ, List, Option}
use Rattle.ffv1_range.specs.Setup.{SetupValue, IsSetupOf, RecordingValue, IsRecordingOf}
use Rattle.ffv1_range.specs.SetupFaults.{FirstSetupFault, FirstRecordingFault}
use Rattle.ffv1_range.specs.declared.fault.SetupFault.{SetupFault}
use Rattle.ffv1_holding.specs.Reels.{Reel, FirstRecordFault}
use Rattle.ffv1_holding.specs.declared.recordings.Recordings.{Recordings}
use Rattle.ffv1_devices.specs.Logs.{ReadLog}
use Rattle.ffv1_commands.specs.Devices.{IsWholeInput, TakesWhole, FileStops}
use Rattle.ffv1_commands.specs.TakenFrames.{IsTakenReel}
use Rattle.ffv1_commands.specs.declared.fault.CliFault.{CliFault}
use Rattle.ffv1_commands.specs.declared.fault.CliFault.TheVariants as faults
use Rattle.ffv1_commands.specs.declared.path.CommandPath.TheVariants as paths

-- The input is read whole as a record that gives this setup for frames of this size.
pub record IsSetupInput (input : Option (List ℕ)) (width height : ℕ) (setup : SetupValue) : Type 0 where
  pub config : List ℕ
  pub read : IsWholeInput input config
  pub is_setup : IsSetupOf config width height setup

-- The same for any recording of version 3.
pub record IsRecordingInput (input : Option (List ℕ)) (width height : ℕ) (recording : RecordingValue) : Type 0 where
  pub config : List ℕ
  pub read : IsWholeInput input config
  pub is_recording : IsRecordingOf config width height recording

-- The same for a reel of these recordings, with slices of the frames that are taken; it keeps the record beside its setup.
pub record IsReelInput (recordings : Recordings) (input : Option (List ℕ)) (width height : ℕ) (reel : Reel) : Type 0 where
  pub read : IsWholeInput input reel.config
  pub of_record : IsTakenReel recordings reel.config width height reel

-- ---- over the logs of the devices

-- The record was read whole, and gives this setup for frames of this size.
pub record TakesSetup (width height : ℕ) (old new : ReadLog) (setup : SetupValue) : Type 0 where
  pub config : List ℕ
  pub read : TakesWhole old new config
  pub is_setup : IsSetupOf config width height setup

-- The same for any recording of version 3.
pub record TakesRecording (width height : ℕ) (old new : ReadLog) (recording : RecordingValue) : Type 0 where
  pub config : List ℕ
  pub read : TakesWhole old new config
  pub is_recording : IsRecordingOf config width height recording

-- The same for a reel of these recordings, with slices of the frames that are taken; it keeps the record beside its setup.
pub record TakesReel (recordings : Recordings) (width height : ℕ) (old new : ReadLog) (reel : Reel) : Type 0 where
  pub read : TakesWhole old new reel.config
  pub of_record : IsTakenReel recordings reel.config width height reel

-- why a record gave nothing: it was not read, its bytes have this fault first, or memory ran out
abbrev pub StopsAtRecord : (First : List ℕ → SetupFault → Type 0) → (old new : ReadLog) → CliFault → Type 0
StopsAtRecord First old new (faults.Setup fault) = (config : List ℕ) × TakesWhole old new config × First config fault
StopsAtRecord First old new fault = FileStops paths.Record fault old new

-- why it gave no setup: the fault is the first that reading it meets
abbrev pub RecordStops : (width height : ℕ) → (old new : ReadLog) → CliFault → Type 0
RecordStops width height old new fault = StopsAtRecord (λ config first. FirstSetupFault config width height first) old new fault

-- why it gave no reel of these recordings
abbrev pub ReelStops : Recordings → (width height : ℕ) → (old new : ReadLog) → CliFault → Type 0
ReelStops recordings width height old new fault = StopsAtRecord (λ config first. FirstRecordFault recordings config width height first) old new fault

-- why it gave no recording of version 3
abbrev pub RecordingStops : (width height : ℕ) → (old new : ReadLog) → CliFault → Type 0
RecordingStops width height old new fault = StopsAtRecord (λ config first. FirstRecordingFault config width height first) old new fault
