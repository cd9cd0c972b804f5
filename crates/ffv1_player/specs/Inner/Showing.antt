-- One tile of a holding that is shown.
use Rattle.std.specs.Prelude.{◌≡◌, ℕ, Bool, List, [], ◌∷◌, ◌++◌, Option, Some, None, MatchBool}
use Rattle.ffv1_range.specs.Setup.{RecordingValue}
use Rattle.ffv1_holding.specs.Reels.{Reel}
use Rattle.ffv1_holding.specs.Contents.{Contents}
use Rattle.ffv1_holding.specs.TileState.{tile_state}
use Rattle.ffv1_samples.specs.Slices.{SlicePictureValue}
use Rattle.ffv1_player.specs.Frames.{IsFrameOfSlices}
use Rattle.ffv1_player.specs.Shown.{SaysRecording, SaysNoKeyframe, IsShownSlice, IsShownTile}
use Rattle.ffv1_player.specs.declared.samples.Samples.{Samples}
use Rattle.ffv1_player.specs.declared.shown.ShownTile.{ShownTile}

-- The record of a reel says this, and the reel has its setup.
pub record IsRecordingOfReel (reel : Reel) (r : RecordingValue) : Type 0 where
  pub says : SaysRecording reel r
  pub setup : r.setup ≡ reel.setup

-- whether a slice says that the frame is no keyframe
abbrev pub HeadSaysNoKeyframe : RecordingValue → List ℕ → Bool → Type 0
HeadSaysNoKeyframe r slice says = MatchBool says (SaysNoKeyframe r slice) (¬ SaysNoKeyframe r slice)

-- A picture was added to those of a frame.
abbrev pub Adds : RecordingValue → SlicePictureValue → Samples → Samples → Type 0
Adds r picture old new =
    (key : Bool) (pictures : List SlicePictureValue) → IsFrameOfSlices r key pictures old → IsFrameOfSlices r key (pictures ++ picture ∷ []) new

abbrev pub AddsAny : RecordingValue → Option SlicePictureValue → Samples → Samples → Type 0
AddsAny r None old new = new ≡ old
AddsAny r (Some picture) old new = Adds r picture old new

-- A slice comes out so, and if it has a picture, that was drawn.
pub record ShowsSlice (r : RecordingValue) (key : Bool) (tile : ℕ) (slice : List ℕ) (outcome : ShownTile) (old new : Samples) : Type 0 where
  pub picture : Option SlicePictureValue
  pub shown : IsShownSlice r key tile slice outcome picture
  pub drawn : AddsAny r picture old new

-- So does a tile.
pub record ShowsOneTile (h : Contents) (r : RecordingValue) (tile : ℕ) (outcome : ShownTile) (old new : Samples) : Type 0 where
  pub picture : Option SlicePictureValue
  pub shown : IsShownTile r old.key tile (tile_state h tile) outcome picture
  pub drawn : AddsAny r picture old new
