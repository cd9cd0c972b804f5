use Rattle.std.proofs.Common.{◌≡◌, ◌<◌, [], length, map, arith, sym, ◌∙◌, below_more}
use Rattle.std.proofs.lemmas.List.{ext_get_or, length-map}
use Rattle.ffv1_vectors.proofs.FrameSteps.{plane_is}
use Rattle.ffv1_makings.proofs.maker.same_planes.Goals as goal

pub loop-plane-preserved : goal.loop-plane-preserved
loop-plane-preserved c =
    let same : c.index-planes-plane.result.items ≡ c.index-others-plane.result.items =
    sym c.deref.ensures.value ∙ c.same_samples.ensures c.if-not-same_samples.false ∙ c.deref-in-loop-plane.ensures.value in
    let below : c.loop-plane.plane < length c.args.others.now = omega arith in
    below_more _ _ c.loop-plane.invariant
    (plane_is c.args.planes.now c.loop-plane.plane c.index-planes-plane.result c.loop-plane-test.true c.index-planes-plane.is ∙ same
    ∙ sym (plane_is c.args.others.now c.loop-plane.plane c.index-others-plane.result below c.index-others-plane.is))

pub returns : goal.returns
returns c = λ _.
    ext_get_or [] (map (λ plane. plane.items) c.args.planes.now) (map (λ plane. plane.items) c.args.others.now)
    (length-map c.args.planes.now (λ plane. plane.items) ∙ c.if-planes-others.false ∙ sym (length-map c.args.others.now (λ plane. plane.items)))
    (λ k lt. c.loop-plane.invariant k (omega (arith, length-map c.args.planes.now (λ plane. plane.items))))
