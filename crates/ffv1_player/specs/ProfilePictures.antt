-- The pictures of one holding of the profile, as one of the profile and as one of any recording.
use Rattle.std.specs.Prelude.{◌≡◌, true}
use Rattle.ffv1_holding.specs.Contents.{Contents, IsHolding}
use Rattle.ffv1_picture.specs.Frames.{planes_of}
use Rattle.ffv1_picture.specs.PartialPictures.{IsPartialPicture}
use Rattle.ffv1_picture.specs.declared.partial.Partial.{Partial}
use Rattle.ffv1_player.specs.Frames.{planes_of_samples}
use Rattle.ffv1_player.specs.Shown.{ShowsHolding}
use Rattle.ffv1_player.specs.declared.shown.Shown.{Shown}

-- They have the same samples, of 8 bits: each tile that the one shows the other shows too.
abbrev pub ProfileIsShownAlike : Type 0
ProfileIsShownAlike =
    (h : Contents) (partial : Partial) (shown : Shown) → IsHolding h → h.reel.rules.is_profile ≡ true → IsPartialPicture h partial → ShowsHolding h shown
    → (shown.samples.depth ≡ 8) × (planes_of_samples shown.samples ≡ planes_of partial.frame)
