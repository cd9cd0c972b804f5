-- What the command `decode` makes and prints: the samples of a frame, and its size.
use Rattle.std.specs.Prelude.{ℕ, ◌≡◌, ◌≢◌, ◌⊎◌, List, Option, Result, Ok, Err}
use Rattle.std.specs.Io.KnownBytes.{Appends}
use Rattle.ffv1_devices.specs.Logs.{ReadLog, WriteLog, Writes}
use Rattle.ffv1_range.specs.Setup.{SetupValue}
use Rattle.ffv1_range.specs.SetupFaults.{FirstSetupFault}
use Rattle.ffv1_picture.specs.Frames.{IsDecodedFrame}
use Rattle.ffv1_picture.specs.FrameFaults.{IsFirstFault}
use Rattle.ffv1_picture.specs.declared.frame.Frame.{Frame}
use Rattle.ffv1_picture.specs.declared.fault.FrameFault.TheVariants as frames
use Rattle.ffv1_commands.specs.Devices.{IsWholeInput, WriteStops, TakesWhole, IsUnread, StopsWithin, BothStop, BothKept}
use Rattle.ffv1_commands.specs.RecordInputs.{IsSetupInput, TakesSetup, RecordStops}
use Rattle.ffv1_commands.specs.FrameText.{raw_bytes, decoded_frame_line}
use Rattle.ffv1_commands.specs.declared.fault.CliFault.{CliFault}
use Rattle.ffv1_commands.specs.declared.fault.CliFault.TheVariants as faults
use Rattle.ffv1_commands.specs.declared.path.CommandPath.TheVariants as paths

-- The record gives this setup, and the input is a payload that spells this frame.
pub record IsFrameInput (record' : Option (List ℕ)) (width height : ℕ) (input : Option (List ℕ)) (frame : Frame) : Type 0 where
  pub setup : SetupValue
  pub of_record : IsSetupInput record' width height setup
  pub payload : List ℕ
  pub read : IsWholeInput input payload
  pub decoded : IsDecodedFrame setup payload frame

-- The frame's samples were written, and then its size was printed.
pub record DecodesFile (record' : Option (List ℕ)) (width height : ℕ) (input out_before out_after printed_before printed_after : Option (List ℕ)) : Type 0 where
  pub frame : Frame
  pub is_frame : IsFrameInput record' width height input frame
  pub samples : Appends out_before out_after (raw_bytes frame)
  pub printed : Appends printed_before printed_after (decoded_frame_line frame)

-- What a fault says, and what it left in the outputs where writing failed: that the record or the frame was not read, the record's
-- first fault, the payload's, or a front of what is written.
abbrev pub DecodeStops : Option (List ℕ) → ℕ → ℕ → (input out_before out_after printed_before printed_after : Option (List ℕ)) → CliFault → Type 0
DecodeStops record' width height input out_before out_after printed_before printed_after (faults.Read path) =
    (path ≡ paths.Record) ⊎ ((path ≡ paths.Frame) × ((setup : SetupValue) × IsSetupInput record' width height setup))
DecodeStops record' width height input out_before out_after printed_before printed_after (faults.Setup fault) =
    (config : List ℕ) × IsWholeInput record' config × FirstSetupFault config width height fault
DecodeStops record' width height input out_before out_after printed_before printed_after (faults.Frame fault) =
    (setup : SetupValue) × IsSetupInput record' width height setup
    × ((payload : List ℕ) × IsWholeInput input payload × IsFirstFault setup payload fault) × (fault ≢ frames.Memory)
DecodeStops record' width height input out_before out_after printed_before printed_after (faults.Write path) =
    (frame : Frame) × IsFrameInput record' width height input frame
    × WriteStops (raw_bytes frame) (decoded_frame_line frame) out_before out_after printed_before printed_after (faults.Write path)
DecodeStops record' width height input out_before out_after printed_before printed_after faults.Memory = Unit {0}
DecodeStops record' width height input out_before out_after printed_before printed_after _ = ⊥

-- ---- over the logs of the devices

-- The payload was read whole, and spells this frame.
pub record TakesFrame (setup : SetupValue) (old new : ReadLog) (frame : Frame) : Type 0 where
  pub payload : List ℕ
  pub read : TakesWhole old new payload
  pub decoded : IsDecodedFrame setup payload frame

-- why the payload gave no frame
abbrev pub FrameStops : SetupValue → (old new : ReadLog) → CliFault → Type 0
FrameStops setup old new (faults.Read path) = (path ≡ paths.Frame) × IsUnread old new
FrameStops setup old new (faults.Frame fault) =
    (payload : List ℕ) × TakesWhole old new payload × IsFirstFault setup payload fault × (fault ≢ frames.Memory)
FrameStops setup old new faults.Memory = StopsWithin old new
FrameStops setup old new _ = ⊥

-- What stopped the command once the record gave this setup: the payload, which leaves both outputs as they were, or writing.
abbrev pub DecodeRefuses : SetupValue → (input_old input_new : ReadLog) → (out_old out_new output_old output_new : WriteLog) → CliFault → Type 0
DecodeRefuses setup input_old input_new out_old out_new output_old output_new fault =
    (FrameStops setup input_old input_new fault × BothKept out_old out_new output_old output_new)
    ⊎ ((frame : Frame) × TakesFrame setup input_old input_new frame
    × BothStop fault (raw_bytes frame) (decoded_frame_line frame) out_old out_new output_old output_new)

-- The samples of the payload's frame and then its size were written; or the record gave no setup, and neither the payload nor an output
-- was touched; or it did, and the command stopped after that.
abbrev pub ReportsDecode : {T : Type 0} → Result T CliFault → (width height : ℕ) → (record_old record_new input_old input_new : ReadLog)
    → (out_old out_new output_old output_new : WriteLog) → Type 0
ReportsDecode (Ok x) width height record_old record_new input_old input_new out_old out_new output_old output_new =
    (setup : SetupValue) × (frame : Frame) × TakesSetup width height record_old record_new setup × TakesFrame setup input_old input_new frame
    × Writes out_old out_new (raw_bytes frame) × Writes output_old output_new (decoded_frame_line frame)
ReportsDecode (Err fault) width height record_old record_new input_old input_new out_old out_new output_old output_new =
    (RecordStops width height record_old record_new fault × (input_new ≡ input_old) × BothKept out_old out_new output_old output_new)
    ⊎ ((setup : SetupValue) × TakesSetup width height record_old record_new setup
    × DecodeRefuses setup input_old input_new out_old out_new output_old output_new fault)
