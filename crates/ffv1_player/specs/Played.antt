-- Frames that are played one after the other (RFC 9043, sections 3.8.1.3 and 3.8.2.4; own: what is written and printed).
use Rattle.std.specs.Prelude.{ℕ, ◌≡◌, ◌≢◌, ◌+◌, Bool, List, [], ◌∷◌, ◌++◌, length, Option, Some, Result, Ok, Err}
use Rattle.std.specs.List.{flat_map, list_all}
use Rattle.ffv1_range.specs.Setup.{RecordingValue}
use Rattle.ffv1_devices.specs.Logs.{ReadLog, WriteLog, Writes, StopsWriting}
use Rattle.ffv1_player.specs.Frames.{LeftValue, IsPlayedFrame}
use Rattle.ffv1_player.specs.Faults.{IsFirstSamplesFault}
use Rattle.ffv1_player.specs.Players.{PlayerValue}
use Rattle.ffv1_player.specs.Written.{samples_bytes}
use Rattle.ffv1_player.specs.declared.fault.SamplesFault.TheVariants as samples_faults
use Rattle.ffv1_player.specs.declared.samples.Samples.{Samples}
use Rattle.ffv1_player.specs.Payloads.{TakesWhole, StopsWithin, IsUnread, AreReadInTurn, AreReadUpTo, FirstWent}
use Rattle.ffv1_player.specs.FrameLines.{is_clean_frame, frames_text}
use Rattle.ffv1_player.specs.declared.playing.PlayFault.{PlayFault}
use Rattle.ffv1_player.specs.declared.playing.PlayFault.TheVariants as faults

-- Each payload has its frame, after what the one before it has left; and this is what the last one leaves.
abbrev pub ArePlayed : RecordingValue → Option (List LeftValue) → List (List ℕ) → List Samples → Option (List LeftValue) → Type 0
ArePlayed r last [] [] end = end ≡ last
ArePlayed r last (payload ∷ payloads) (frame ∷ frames) end =
    (left : List LeftValue) × IsPlayedFrame r last payload frame left × ArePlayed r (Some left) payloads frames end
ArePlayed r last _ _ end = ⊥

-- the samples of frames as bytes, frame after frame
abbrev pub frames_bytes : List Samples → List ℕ
frames_bytes frames = flat_map samples_bytes frames

-- each slice of each frame ends as an encoder ends it
abbrev pub are_clean : List Samples → Bool
are_clean frames = list_all is_clean_frame frames

-- ---- over devices

-- The sources' payloads have these frames, after what the player's last frame has left. Their samples were written, and their lines printed.
pub record PlaysAll (player : PlayerValue) (old new : List ReadLog) (out_old out_new output_old output_new : WriteLog) (clean : Bool) : Type 0 where
  pub payloads : List (List ℕ)
  pub count : length payloads ≡ length old
  pub read : AreReadInTurn old new payloads
  pub frames : List Samples
  pub end : Option (List LeftValue)
  pub played : ArePlayed player.recording player.last payloads frames end
  pub wrote : Writes out_old out_new (frames_bytes frames)
  pub printed : Writes output_old output_new (frames_text 1 frames)
  pub returned : clean ≡ are_clean frames

-- The payloads have these frames, after what the player's last frame has left. The samples of all of them were written, and their lines
-- printed.
pub record PlaysFront (player : PlayerValue) (payloads : List (List ℕ)) (frames : List Samples) (end : Option (List LeftValue))
    (out_old out_new output_old output_new : WriteLog) : Type 0 where
  pub played : ArePlayed player.recording player.last payloads frames end
  pub wrote : Writes out_old out_new (frames_bytes frames)
  pub printed : Writes output_old output_new (frames_text 1 frames)

-- Why not all were played. `Read`: the source of this place was given up or has too many bytes, and the frames before it were written and
-- printed. `Samples`: the same, but that source was read whole, and this is its payload's first fault. `Memory`: the same, but reading the
-- source stopped within the limit. `Out`: a front of the samples was written, and the lines of all frames but the last. `Output`: all samples
-- were written, and a front of the lines.
abbrev pub StopsPlaying : PlayerValue → (old new : List ReadLog) → (out_old out_new output_old output_new : WriteLog) → PlayFault → Type 0
StopsPlaying player old new out_old out_new output_old output_new (faults.Read place) =
    (payloads : List (List ℕ)) × (frames : List Samples) × (end : Option (List LeftValue)) × (place ≡ length payloads)
    × AreReadUpTo IsUnread old new payloads × PlaysFront player payloads frames end out_old out_new output_old output_new
StopsPlaying player old new out_old out_new output_old output_new (faults.Samples number fault) =
    (payloads : List (List ℕ)) × (payload : List ℕ) × (frames : List Samples) × (end : Option (List LeftValue)) × (number ≡ length payloads + 1)
    × AreReadInTurn old new (payloads ++ payload ∷ []) × PlaysFront player payloads frames end out_old out_new output_old output_new
    × IsFirstSamplesFault player.recording end payload fault × (fault ≢ samples_faults.Memory)
StopsPlaying player old new out_old out_new output_old output_new faults.Memory =
    (payloads : List (List ℕ)) × (frames : List Samples) × (end : Option (List LeftValue))
    × AreReadUpTo StopsWithin old new payloads × PlaysFront player payloads frames end out_old out_new output_old output_new
StopsPlaying player old new out_old out_new output_old output_new faults.Out =
    (payloads : List (List ℕ)) × (frames : List Samples) × (frame : Samples) × (end : Option (List LeftValue))
    × AreReadInTurn old new payloads × ArePlayed player.recording player.last payloads (frames ++ frame ∷ []) end
    × StopsWriting out_old out_new (frames_bytes (frames ++ frame ∷ [])) × Writes output_old output_new (frames_text 1 frames)
StopsPlaying player old new out_old out_new output_old output_new faults.Output =
    (payloads : List (List ℕ)) × (frames : List Samples) × (end : Option (List LeftValue))
    × AreReadInTurn old new payloads × ArePlayed player.recording player.last payloads frames end
    × Writes out_old out_new (frames_bytes frames) × StopsWriting output_old output_new (frames_text 1 frames)

-- all frames were played, or not all
abbrev pub PlaysFrames : PlayerValue → Result Bool PlayFault → (old new : List ReadLog) → (out_old out_new output_old output_new : WriteLog) → Type 0
PlaysFrames player (Ok clean) old new out_old out_new output_old output_new = PlaysAll player old new out_old out_new output_old output_new clean
PlaysFrames player (Err fault) old new out_old out_new output_old output_new = StopsPlaying player old new out_old out_new output_old output_new fault

-- The first source was read whole, and its payload has a frame.
abbrev pub HasFirstFrame : PlayerValue → (old new : List ReadLog) → Type 0
HasFirstFrame player old new = FirstWent
    (λ o n. (payload : List ℕ) × (frame : Samples) × (left : List LeftValue) × TakesWhole o n payload
    × IsPlayedFrame player.recording player.last payload frame left) old new
