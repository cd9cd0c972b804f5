-- What two recordings have to share to be one, in the same frames.
use Rattle.std.specs.Prelude.{◌≡◌}
use Rattle.ffv1_holding.specs.Reels.{Reel}

-- the bytes of the record, and the size of the frames
pub record HasSameRecord (a b : Reel) : Type 0 where
  pub config : a.config ≡ b.config
  pub width : a.setup.width ≡ b.setup.width
  pub height : a.setup.height ≡ b.setup.height
