use Rattle.std.proofs.Common.{refl}
use Rattle.ffv1_holding.proofs.OwnFrames.{kept-any}
use Rattle.ffv1_holding.proofs.holding.Holding+Recording.into_any_frames.Goals as goal

pub invariant_of-result : goal.invariant_of-result
invariant_of-result c = kept-any c.self.inside _ c.into_any_frames-reel.ensures refl c.self.invariant
