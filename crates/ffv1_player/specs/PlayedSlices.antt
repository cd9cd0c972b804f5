-- Where the slices of a keyframe are shown, one of each tile, what is shown is the frame that they are to a player.
use Rattle.std.specs.Prelude.{◌≡◌, ℕ, List, None, map}
use Rattle.ffv1_range.specs.Setup.{RecordingValue}
use Rattle.ffv1_slice.specs.Slices.{IsOriginal}
use Rattle.ffv1_holding.specs.Reels.{Reel}
use Rattle.ffv1_player.specs.Frames.{LeftValue, IsPlayedFrame, IsSameFrame}
use Rattle.ffv1_player.specs.Shown.{SaysRecording}
use Rattle.ffv1_player.specs.ShownSlices.{ShowsEachSlice}
use Rattle.ffv1_player.specs.declared.samples.Samples.{Samples}
use Rattle.ffv1_player.specs.declared.shown.Shown.{Shown}
use Rattle.ffv1_player.specs.declared.shown.ShownTile.TheVariants.{Decoded}

-- What is shown is a frame: its samples are, and each tile is decoded and ends as its slice does.
pub record IsFrameShown (frame : Samples) (shown : Shown) : Type 0 where
  pub samples : IsSameFrame shown.samples frame
  pub ends : shown.tiles.items ≡ map Decoded frame.slices.items

-- A payload of one slice a tile, in tile order, that is a frame after none, and so a keyframe, is shown so.
abbrev pub KeyframeIsShown : Type 0
KeyframeIsShown =
    (reel : Reel) (r : RecordingValue) (original : List ℕ) (slices : List (List ℕ)) (shown : Shown) (frame : Samples) (left : List LeftValue)
    → SaysRecording reel r → IsOriginal reel.rules original slices → ShowsEachSlice reel slices shown → IsPlayedFrame r None original frame left
    → IsFrameShown frame shown
