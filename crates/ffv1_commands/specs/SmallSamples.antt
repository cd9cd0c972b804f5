-- What the command `samples` writes, with no word of faults: the samples of the frames that its inputs are, one after the other (RFC 9043,
-- sections 3.8.1.3 and 3.8.2.4).
use Rattle.std.specs.Prelude.{ℕ, List, Option, None}
use Rattle.std.specs.Io.KnownBytes.{Appends}
use Rattle.ffv1_range.specs.Setup.{RecordingValue}
use Rattle.ffv1_player.specs.Played.{frames_bytes}
use Rattle.ffv1_player.specs.SmallRecords.{IsRecord}
use Rattle.ffv1_player.specs.SmallFrames.{AreFramesInTurn}
use Rattle.ffv1_player.specs.declared.samples.Samples.{Samples}
use Rattle.ffv1_commands.specs.Devices.{IsWholeInput, AreWholeInputs}

-- All is read whole. The record says something of frames of this size; the inputs are such frames, one after the other, and their samples were
-- written to OUT.
pub record WritesFrames (record' : Option (List ℕ)) (width height : ℕ) (inputs : List (Option (List ℕ)))
    (out_before out_after : Option (List ℕ)) : Type 0 where
  pub config : List ℕ
  pub record_read : IsWholeInput record' config
  pub recording : RecordingValue
  pub is_record : IsRecord config width height recording
  pub payloads : List (List ℕ)
  pub read : AreWholeInputs inputs payloads
  pub frames : List Samples
  pub are_frames : AreFramesInTurn recording None payloads frames
  pub wrote : Appends out_before out_after (frames_bytes frames)
