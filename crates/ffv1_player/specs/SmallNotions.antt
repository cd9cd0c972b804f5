-- What a player decodes is said so by the small definitions too, frame after frame, and so are the frames of the profile's decoder.
use Rattle.std.specs.Prelude.{ℕ, List, Option, None}
use Rattle.ffv1_range.specs.Setup.{SetupValue, RecordingValue, IsSetupOf, IsRecordingOf}
use Rattle.ffv1_picture.specs.Frames.{IsDecodedFrame}
use Rattle.ffv1_picture.specs.declared.frame.Frame.{Frame}
use Rattle.ffv1_player.specs.Frames.{LeftValue}
use Rattle.ffv1_player.specs.Played.{ArePlayed}
use Rattle.ffv1_player.specs.Profile.{AreSamplesOf}
use Rattle.ffv1_player.specs.SmallFrames.{IsFrame, AreFramesInTurn}
use Rattle.ffv1_player.specs.declared.samples.Samples.{Samples}

-- Frames that are played one after the other, from the first on, are the payloads' frames.
abbrev pub PlayedAreFrames : Type 0
PlayedAreFrames =
    (config : List ℕ) (width height : ℕ) (r : RecordingValue) (payloads : List (List ℕ)) (frames : List Samples) (end : Option (List LeftValue))
    → IsRecordingOf config width height r → ArePlayed r None payloads frames end → AreFramesInTurn r None payloads frames

-- For a record of the profile a frame that a payload spells is the payload's frame.
abbrev pub DecodedIsFrame : Type 0
DecodedIsFrame =
    (config : List ℕ) (width height : ℕ) (setup : SetupValue) (r : RecordingValue) (payload : List ℕ) (frame : Frame)
    → IsSetupOf config width height setup → IsRecordingOf config width height r → IsDecodedFrame setup payload frame
    → (samples : Samples) × (left : List LeftValue) × IsFrame r None payload samples left × AreSamplesOf frame samples
