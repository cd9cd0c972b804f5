-- A frame of the profile is one of any recording: both definitions of it say the same (RFC 9043, sections 4.4 to 4.9).
use Rattle.std.specs.Prelude.{◌≡◌, ℕ, true, false, List, Option}
use Rattle.ffv1_range.specs.Setup.{SetupValue, RecordingValue, IsSetupOf, IsRecordingOf}
use Rattle.ffv1_picture.specs.Frames.{planes_of, IsDecodedFrame}
use Rattle.ffv1_picture.specs.declared.frame.Frame.{Frame}
use Rattle.ffv1_player.specs.Frames.{planes_of_samples, LeftValue, IsPlayedFrame}
use Rattle.ffv1_player.specs.declared.samples.Samples.{Samples}

-- The samples are those of the frame: a keyframe of Y, or Y, Cb and Cr, of 8 bits, with the same size and planes.
pub record AreSamplesOf (frame : Frame) (samples : Samples) : Type 0 where
  pub width : samples.width ≡ frame.width
  pub height : samples.height ≡ frame.height
  pub shift_h : samples.shift_h ≡ frame.shift_h
  pub shift_v : samples.shift_v ≡ frame.shift_v
  pub is_rgb : samples.is_rgb ≡ false
  pub has_alpha : samples.has_alpha ≡ false
  pub depth : samples.depth ≡ 8
  pub key : samples.key ≡ true
  pub planes : planes_of_samples samples ≡ planes_of frame

-- ---- laws

-- For a record of the profile a frame that a payload spells is played, after any frame before.
abbrev pub FrameIsPlayed : Type 0
FrameIsPlayed =
    (config : List ℕ) (width height : ℕ) (setup : SetupValue) (r : RecordingValue) (last : Option (List LeftValue)) (payload : List ℕ) (frame : Frame)
    → IsSetupOf config width height setup → IsRecordingOf config width height r → IsDecodedFrame setup payload frame
    → (samples : Samples) × (left : List LeftValue) × IsPlayedFrame r last payload samples left × AreSamplesOf frame samples
