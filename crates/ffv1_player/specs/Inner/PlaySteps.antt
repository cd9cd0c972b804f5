-- What the steps of playing a frame do.
use Rattle.std.specs.Prelude.{ℕ, ◌≡◌, ◌≢◌, Bool, List, Some, Result, Ok, Err}
use Rattle.ffv1_devices.specs.Logs.{ReadLog, WriteLog, Writes, StopsWriting}
use Rattle.ffv1_player.specs.Frames.{LeftValue, IsPlayedFrame}
use Rattle.ffv1_player.specs.Faults.{IsFirstSamplesFault}
use Rattle.ffv1_player.specs.Players.{PlayerValue, player_value}
use Rattle.ffv1_player.specs.Written.{samples_bytes}
use Rattle.ffv1_player.specs.declared.fault.SamplesFault.TheVariants as samples_faults
use Rattle.ffv1_player.specs.declared.samples.Samples.{Samples}
use Rattle.ffv1_player.specs.Payloads.{TakesWhole, StopsWithin, IsUnread}
use Rattle.ffv1_player.specs.FrameLines.{is_clean_frame, frame_text}
use Rattle.ffv1_player.specs.declared.playing.PlayFault.{PlayFault}
use Rattle.ffv1_player.specs.declared.playing.PlayFault.TheVariants as faults

-- the source at this place was read whole, or it was not
abbrev pub ReadsPayload : {T : Type 0} → (T → List ℕ) → ℕ → Result T PlayFault → ReadLog → ReadLog → Type 0
ReadsPayload items place (Ok x) old new = TakesWhole old new (items x)
ReadsPayload items place (Err (faults.Read named)) old new = (named ≡ place) × IsUnread old new
ReadsPayload items place (Err faults.Memory) old new = StopsWithin old new
ReadsPayload items place (Err _) old new = ⊥

-- the payload has this frame, or a first fault, which names this number
abbrev pub DecodesNext : ℕ → List ℕ → (old new : PlayerValue) → Result Samples PlayFault → Type 0
DecodesNext number payload old new (Ok frame) =
    (left : List LeftValue) × IsPlayedFrame old.recording old.last payload frame left × (new ≡ player_value old.recording (Some left))
DecodesNext number payload old new (Err (faults.Samples named fault)) =
    (named ≡ number) × IsFirstSamplesFault old.recording old.last payload fault × (fault ≢ samples_faults.Memory)
DecodesNext number payload old new (Err faults.Memory) = Unit {0}
DecodesNext number payload old new (Err _) = ⊥

-- the source at a place was read, and its payload has this frame; or either stopped
abbrev pub PlaysNext : (place number : ℕ) → (before after : PlayerValue) → Result Samples PlayFault → (old new : ReadLog) → Type 0
PlaysNext place number before after (Ok frame) old new = (payload : List ℕ) × (left : List LeftValue) × TakesWhole old new payload
    × IsPlayedFrame before.recording before.last payload frame left × (after ≡ player_value before.recording (Some left))
PlaysNext place number before after (Err (faults.Read named)) old new = (named ≡ place) × IsUnread old new
PlaysNext place number before after (Err (faults.Samples named fault)) old new = (named ≡ number) × ((payload : List ℕ) × TakesWhole old new payload
    × IsFirstSamplesFault before.recording before.last payload fault × (fault ≢ samples_faults.Memory))
PlaysNext place number before after (Err faults.Memory) old new = StopsWithin old new
PlaysNext place number before after (Err _) old new = ⊥

-- the samples of the frame with this number were written, and then its lines; or either was not written whole; or memory was refused before
abbrev pub ShowsFrame : ℕ → Samples → Result Bool PlayFault → (out_old out_new output_old output_new : WriteLog) → Type 0
ShowsFrame number frame (Ok clean) out_old out_new output_old output_new =
    Writes out_old out_new (samples_bytes frame) × Writes output_old output_new (frame_text number frame) × (clean ≡ is_clean_frame frame)
ShowsFrame number frame (Err faults.Out) out_old out_new output_old output_new =
    StopsWriting out_old out_new (samples_bytes frame) × (output_new ≡ output_old)
ShowsFrame number frame (Err faults.Output) out_old out_new output_old output_new =
    Writes out_old out_new (samples_bytes frame) × StopsWriting output_old output_new (frame_text number frame)
ShowsFrame number frame (Err faults.Memory) out_old out_new output_old output_new = (out_new ≡ out_old) × (output_new ≡ output_old)
ShowsFrame number frame (Err _) out_old out_new output_old output_new = ⊥
