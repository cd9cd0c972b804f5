use Rattle.std.proofs.Common.{◌≡◌, ◌*◌, length, arith, sym, ap, ◌∙◌, below_more}
use Rattle.ffv1_vectors.proofs.FrameSteps.{plane_is}
use Rattle.ffv1_range.specs.declared.grid.TileRect.{TileRect}
use Rattle.ffv1_makings.proofs.fits.fit_planes.Goals as goal

pub loop-plane-preserved : goal.loop-plane-preserved
loop-plane-preserved c =
    let here = plane_is c.args.planes.now c.loop-plane.plane c.index-planes-plane.result c.loop-plane-test.true c.index-planes-plane.is in
    let area = ap (λ (rect : TileRect). rect.w * rect.h) c.frame_in-place.ensures in
    let many : c.len.result ≡ length c.index-planes-plane.result.items = c.len.ensures ∙ c.index-planes-plane.result.ok.0 in
    below_more _ _ c.loop-plane.invariant (ap length here ∙ sym many ∙ c.if-len-place.false ∙ area)

pub returns : goal.returns
returns c = λ yes p lt. c.loop-plane.invariant p (omega arith)
