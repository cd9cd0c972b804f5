-- What the command `samples` reads, makes and prints: the frames of any recording of version 3 in their order, the file OUT, which is their
-- samples, and their lines (RFC 9043, sections 3.8.1.3 and 3.8.2.4).
use Rattle.std.specs.Prelude.{ℕ, ◌≡◌, ◌≢◌, ◌+◌, ◌<◌, ◌⊎◌, Bool, List, [], ◌∷◌, ◌++◌, length, take, slice_index_or, Option, None, Result, Ok, Err}
use Rattle.std.specs.Io.KnownBytes.{Appends, Keeps}
use Rattle.ffv1_range.specs.Setup.{RecordingValue}
use Rattle.ffv1_range.specs.SetupFaults.{FirstRecordingFault}
use Rattle.ffv1_devices.specs.Logs.{ReadLog, WriteLog}
use Rattle.ffv1_player.specs.Frames.{LeftValue, IsPlayedFrame}
use Rattle.ffv1_player.specs.Faults.{IsFirstSamplesFault}
use Rattle.ffv1_player.specs.Players.{player_value}
use Rattle.ffv1_player.specs.declared.fault.SamplesFault.TheVariants as samples_faults
use Rattle.ffv1_player.specs.declared.samples.Samples.{Samples}
use Rattle.ffv1_player.specs.FrameLines.{frames_text}
use Rattle.ffv1_player.specs.Played.{ArePlayed, frames_bytes, are_clean, PlaysAll, StopsPlaying, HasFirstFrame}
use Rattle.ffv1_player.specs.declared.playing.PlayFault.{PlayFault}
use Rattle.ffv1_commands.specs.Devices.{IsWholeInput, AreWholeInputs, WritesFront, BothKept}
use Rattle.ffv1_commands.specs.Fault.{of_play}
use Rattle.ffv1_commands.specs.RecordInputs.{IsRecordingInput, TakesRecording, RecordingStops}
use Rattle.ffv1_commands.specs.declared.fault.CliFault.{CliFault}
use Rattle.ffv1_commands.specs.declared.fault.CliFault.TheVariants as faults
use Rattle.ffv1_commands.specs.declared.path.CommandPath.TheVariants as paths

-- ---- over devices

-- The record gives a recording, and this came of it.
abbrev pub PlaysRecording : (width height : ℕ) → (old new : ReadLog) → (RecordingValue → Type 0) → Type 0
PlaysRecording width height old new P = (recording : RecordingValue) × TakesRecording width height old new recording × P recording

-- All frames were played; or the record gives no recording, and neither the frames nor the outputs were touched; or playing them stopped.
abbrev pub ReportsSamples : Result Bool CliFault → (width height : ℕ) → (record_old record_new : ReadLog) → (old new : List ReadLog)
    → (out_old out_new output_old output_new : WriteLog) → Type 0
ReportsSamples (Ok clean) width height record_old record_new old new out_old out_new output_old output_new =
    PlaysRecording width height record_old record_new
    (λ recording. PlaysAll (player_value recording None) old new out_old out_new output_old output_new clean)
ReportsSamples (Err fault) width height record_old record_new old new out_old out_new output_old output_new =
    (RecordingStops width height record_old record_new fault × (new ≡ old) × BothKept out_old out_new output_old output_new)
    ⊎ ((stop : PlayFault) × (fault ≡ of_play stop) × PlaysRecording width height record_old record_new
    (λ recording. StopsPlaying (player_value recording None) old new out_old out_new output_old output_new stop))

-- The first frame was decoded.
abbrev pub BeginsPlaying : (width height : ℕ) → (record_old record_new : ReadLog) → (old new : List ReadLog) → Type 0
BeginsPlaying width height record_old record_new old new =
    PlaysRecording width height record_old record_new (λ recording. HasFirstFrame (player_value recording None) old new)

-- ---- over the bytes of inputs and outputs

-- The input at this place is read whole as these bytes.
abbrev pub IsInputAt : List (Option (List ℕ)) → ℕ → List ℕ → Type 0
IsInputAt inputs place bytes = (place < length inputs) × IsWholeInput (slice_index_or inputs place None) bytes

-- The inputs are read whole as payloads. These have frames, one after the other, the first after none.
pub record PlaysFrom (recording : RecordingValue) (inputs : List (Option (List ℕ))) (frames : List Samples) : Type 0 where
  pub payloads : List (List ℕ)
  pub read : AreWholeInputs inputs payloads
  pub end : Option (List LeftValue)
  pub played : ArePlayed recording None payloads frames end

-- The record gives a recording. All inputs are frames of it: their samples were written to OUT, and their lines were printed, and the
-- command returned whether each slice ends as an encoder ends it.
pub record PlaysFiles (record' : Option (List ℕ)) (width height : ℕ) (inputs : List (Option (List ℕ)))
    (out_before out_after printed_before printed_after : Option (List ℕ)) (clean : Bool) : Type 0 where
  pub recording : RecordingValue
  pub of_record : IsRecordingInput record' width height recording
  pub frames : List Samples
  pub all : PlaysFrom recording inputs frames
  pub wrote : Appends out_before out_after (frames_bytes frames)
  pub printed : Appends printed_before printed_after (frames_text 1 frames)
  pub returned : clean ≡ are_clean frames

-- The record gives a recording. The inputs before a place are frames of it, and their samples were written, and their lines were printed.
pub record PlaysBefore (record' : Option (List ℕ)) (width height : ℕ) (inputs : List (Option (List ℕ))) (place : ℕ)
    (out_before out_after printed_before printed_after : Option (List ℕ)) : Type 0 where
  pub recording : RecordingValue
  pub of_record : IsRecordingInput record' width height recording
  pub frames : List Samples
  pub front : PlaysFrom recording (take place inputs) frames
  pub wrote : Appends out_before out_after (frames_bytes frames)
  pub printed : Appends printed_before printed_after (frames_text 1 frames)

-- What a fault says, and what it left. `Read` of the record and `Setup`: nothing was written. `Read` of a frame: those before it were played.
-- `Samples`: the same, and this is the first fault of the payload after what the frame before has left. `Memory`: nothing was written, or the
-- frames of a front were played. `Write` of OUT: a front of the samples of some frames was written, and the lines of these but the last were
-- printed. `Write` of standard output: all samples of some frames were written, and a front of their lines.
abbrev pub SamplesStops : (record' : Option (List ℕ)) → (width height : ℕ) → (inputs : List (Option (List ℕ)))
    → (out_before out_after printed_before printed_after : Option (List ℕ)) → CliFault → Type 0
SamplesStops record' width height inputs out_before out_after printed_before printed_after (faults.Read paths.Record) =
    Keeps out_before out_after × Keeps printed_before printed_after
SamplesStops record' width height inputs out_before out_after printed_before printed_after (faults.Read (paths.Copy place)) =
    (place < length inputs) × PlaysBefore record' width height inputs place out_before out_after printed_before printed_after
SamplesStops record' width height inputs out_before out_after printed_before printed_after (faults.Setup fault) =
    ((config : List ℕ) × IsWholeInput record' config × FirstRecordingFault config width height fault)
    × Keeps out_before out_after × Keeps printed_before printed_after
SamplesStops record' width height inputs out_before out_after printed_before printed_after (faults.Samples number fault) =
    (place : ℕ) × (payload : List ℕ) × (number ≡ place + 1) × IsInputAt inputs place payload
    × (played : PlaysBefore record' width height inputs place out_before out_after printed_before printed_after)
    × IsFirstSamplesFault played.recording played.front.end payload fault × (fault ≢ samples_faults.Memory)
SamplesStops record' width height inputs out_before out_after printed_before printed_after faults.Memory =
    (Keeps out_before out_after × Keeps printed_before printed_after)
    ⊎ ((place : ℕ) × PlaysBefore record' width height inputs place out_before out_after printed_before printed_after)
SamplesStops record' width height inputs out_before out_after printed_before printed_after (faults.Write paths.Out) =
    (place : ℕ) × (recording : RecordingValue) × (frames : List Samples) × (frame : Samples) × IsRecordingInput record' width height recording
    × PlaysFrom recording (take place inputs) (frames ++ frame ∷ [])
    × WritesFront out_before out_after (frames_bytes (frames ++ frame ∷ [])) × Appends printed_before printed_after (frames_text 1 frames)
SamplesStops record' width height inputs out_before out_after printed_before printed_after (faults.Write paths.StandardOutput) =
    (place : ℕ) × (recording : RecordingValue) × (frames : List Samples) × IsRecordingInput record' width height recording
    × PlaysFrom recording (take place inputs) frames
    × Appends out_before out_after (frames_bytes frames) × WritesFront printed_before printed_after (frames_text 1 frames)
SamplesStops record' width height inputs out_before out_after printed_before printed_after _ = ⊥

-- The first input is a frame of the recording that the record gives.
abbrev pub FirstIsFrame : (record' : Option (List ℕ)) → (width height : ℕ) → (inputs : List (Option (List ℕ))) → Type 0
FirstIsFrame record' width height inputs =
    (recording : RecordingValue) × (payload : List ℕ) × (frame : Samples) × (left : List LeftValue) × IsRecordingInput record' width height recording
    × IsInputAt inputs 0 payload × IsPlayedFrame recording None payload frame left
