use Rattle.std.proofs.Common.{sym, subst}
use Rattle.ffv1_slice.specs.Slices.{IsSliceOf}
use Rattle.ffv1_holding.specs.Reels.{Reel}
use Rattle.ffv1_holding.proofs.reel.Reel.read_slice.Goals as goal

pub returns-clause-only : goal.returns-clause-only
returns-clause-only g c =
    λ tile is.
    c.read_frame_slice.ensures.only tile (subst (λ (r : Reel). IsSliceOf r.rules c.args.slice.now c.args.first tile) (sym c.self.view_is) is)
