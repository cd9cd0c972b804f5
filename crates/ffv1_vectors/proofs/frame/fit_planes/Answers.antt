use Rattle.std.proofs.Common.{◌≡◌, ◌<◌, ◌*◌, length, arith, refl, sym, ap, ◌∙◌, subst, below_more}
use Rattle.std.proofs.lemmas.Bool.{false≢true}
use Rattle.ffv1_range.specs.declared.grid.TileRect.{TileRect}
use Rattle.ffv1_vectors.proofs.FrameSteps.{plane_is}
use Rattle.ffv1_vectors.proofs.frame.fit_planes.Goals as goal

pub loop-plane-init : goal.loop-plane-init
loop-plane-init c = λ plane lt. absurd (omega arith)

pub plane_rect-rect-requires-clause-tile : goal.plane_rect-rect-requires-clause-tile
plane_rect-rect-requires-clause-tile c = c.requires.tile

pub plane_rect-rect-requires-clause-plane : goal.plane_rect-rect-requires-clause-plane
plane_rect-rect-requires-clause-plane c = subst (λ n. c.loop-plane.plane < n) c.requires.planes c.loop-plane-test.true

pub returns-then-len-rect : goal.returns-then-len-rect
returns-then-len-rect c =
    let here = plane_is c.args.planes.now c.loop-plane.plane c.index-planes-plane.result c.loop-plane-test.true c.index-planes-plane.is in
    let area = ap (λ (rect : TileRect). rect.w * rect.h) c.plane_rect-rect.ensures in
    let many : c.len.result ≡ length c.index-planes-plane.result.items = c.len.ensures ∙ c.index-planes-plane.result.ok.0 in (
      λ yes. absurd (false≢true yes),
      λ fits. absurd (c.if-len-rect.true (many ∙ sym (ap length here) ∙ fits c.loop-plane.plane c.loop-plane-test.true ∙ sym area)),
    )

pub loop-plane-preserved : goal.loop-plane-preserved
loop-plane-preserved c =
    let here = plane_is c.args.planes.now c.loop-plane.plane c.index-planes-plane.result c.loop-plane-test.true c.index-planes-plane.is in
    let area = ap (λ (rect : TileRect). rect.w * rect.h) c.plane_rect-rect.ensures in
    let many : c.len.result ≡ length c.index-planes-plane.result.items = c.len.ensures ∙ c.index-planes-plane.result.ok.0 in
    below_more _ _ c.loop-plane.invariant (ap length here ∙ sym many ∙ c.if-len-rect.false ∙ area)

pub returns : goal.returns
returns c = (λ yes plane lt. c.loop-plane.invariant plane (omega arith), λ fits. refl)
