use Rattle.std.proofs.Common.{◌==◌, sym, subst}
use Rattle.ffv1_slice.specs.Slices.{IsSliceOf}
use Rattle.ffv1_holding.specs.Reels.{Reel}
use Rattle.ffv1_holding.proofs.reel.Reel.slice_of.Goals as goal

pub returns-clause-only : goal.returns-clause-only
returns-clause-only g c =
    λ tile is.
    c.frame_slice_of.ensures.only tile (subst (λ (r : Reel). IsSliceOf r.rules c.args.link.now.bytes (c.args.link.now.start == 0) tile) (sym c.self.view_is) is)
