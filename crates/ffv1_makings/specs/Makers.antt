-- A maker of the frames of a recording, and what it makes.
use Rattle.std.specs.Prelude.{◌≡◌, ◌<◌, ℕ, Bool, List, length, map, true, slice_index_or, Some}
use Rattle.ffv1_player.specs.Frames.{LeftValue, IsPlayedFrame, planes_of_samples}
use Rattle.ffv1_player.specs.Players.{PlayerValue}
use Rattle.ffv1_player.specs.declared.samples.Samples.{Samples}
use Rattle.ffv1_player.specs.declared.samples.SliceEnd.{SliceEnd}
use Rattle.ffv1_makings.specs.declared.spec.PictureSpec.{PictureSpec}

-- a maker: its record, a player of the frames that it has made, and whether a frame can go on from the last
pub record MakerValue : Type 0 where
  pub config : List ℕ
  pub player : PlayerValue
  pub goes_on : Bool

abbrev pub wanted_planes : PictureSpec → List (List ℕ)
wanted_planes picture = map (λ plane. plane.items) picture.planes.items

-- Each slice ends as an encoder ends it.
abbrev pub AreClean : List SliceEnd → Type 0
AreClean slices = (place : ℕ) (d : SliceEnd) → place < length slices → (slice_index_or slices place d).is_clean ≡ true

-- The frame has the planes asked for, is a keyframe where one was asked for, and has as many slices, of which each ends clean.
pub record IsAskedFrame (frame : Samples) (picture : PictureSpec) : Type 0 where
  pub is_key : frame.key ≡ picture.key
  pub planes : planes_of_samples frame ≡ wanted_planes picture
  pub count : length frame.slices.items ≡ length picture.slices.items
  pub clean : AreClean frame.slices.items

-- The payload has such a frame after those that the player has decoded, which is left so.
pub record MakesFrame (before after : PlayerValue) (payload : List ℕ) (picture : PictureSpec) : Type 0 where
  pub frame : Samples
  pub left : List LeftValue
  pub is_played : IsPlayedFrame before.recording before.last payload frame left
  pub is_asked : IsAskedFrame frame picture
  pub is_left : after.last ≡ Some left
