-- What is shown of a frame's slices, one of each tile in the order of the tiles: of a holding that has these and no others.
use Rattle.std.specs.Prelude.{◌≡◌, ℕ, ◌<◌, Bool, true, List, [], length, Option, None, MatchBool, slice_index_or}
use Rattle.ffv1_range.specs.Setup.{RecordingValue}
use Rattle.ffv1_holding.specs.Reels.{Reel}
use Rattle.ffv1_samples.specs.Slices.{SlicePictureValue}
use Rattle.ffv1_player.specs.Frames.{IsFrameOfSlices}
use Rattle.ffv1_player.specs.Shown.{SaysRecording, SaysNoKeyframe, IsShownSlice, present}
use Rattle.ffv1_player.specs.declared.shown.Shown.{Shown}
use Rattle.ffv1_player.specs.declared.shown.ShownTile.TheVariants.{Missing}

-- Each slice comes out as one of a keyframe, and none has a picture where the first says that the frame is none (RFC 9043, section 4.4).
pub record ShowsEachSlice (reel : Reel) (slices : List (List ℕ)) (shown : Shown) : Type 0 where
  pub recording : RecordingValue
  pub says : SaysRecording reel recording
  pub key : Bool
  pub is_key : MatchBool key (¬ SaysNoKeyframe recording (slice_index_or slices 0 [])) (SaysNoKeyframe recording (slice_index_or slices 0 []))
  pub is_known : shown.is_key_known ≡ true
  pub pictures : List (Option SlicePictureValue)
  pub count : length pictures ≡ length slices
  pub stated : length shown.tiles.items ≡ length slices
  pub each : (tile : ℕ) → tile < length slices → IsShownSlice recording key tile (slice_index_or slices tile []) (slice_index_or shown.tiles.items tile Missing)
      (slice_index_or pictures tile None)
  pub is_frame : IsFrameOfSlices recording key (present pictures) shown.samples
