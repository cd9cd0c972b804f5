use Rattle.ffv1_splice.proofs.Common.{◌+◌, arith}
use Rattle.ffv1_splice.proofs.ClaimSteps.{unclaimed_after, unclaimed_before, unclaimed_past}
use Rattle.ffv1_splice.proofs.shortest.first_claim.Goals as goal

pub loop-end-preserved-in_default : goal.loop-end-preserved-in_default
loop-end-preserved-in_default c =
    unclaimed_after c.args.copy.now c.args.start c.args.from c.loop-end.end c.args.last c.min-after.result (λ i. omega (arith, c.type_inv.copy i))
    c.requires.content c.requires.room c.loop-end-test.true c.min-after.ensures c.loop-end.invariant c.in_default.ensures

pub returns-then-claims : goal.returns-then-claims
returns-then-claims c =
    let before =
    unclaimed_before c.args.copy.now c.args.start c.args.from c.loop-end.end c.args.last c.min-after.result (λ i. omega (arith, c.type_inv.copy i))
    c.requires.content c.requires.room c.loop-end-test.true c.min-after.ensures c.loop-end.invariant c.in-Some.skipped c.in-Some.ensures.0 in
    record { after = before.1.order; within = before.0; cut = c.claims.ensures.0 c.if-claims.true; none = before.1.none }

pub loop-end-preserved : goal.loop-end-preserved
loop-end-preserved c =
    let before =
    unclaimed_before c.args.copy.now c.args.start c.args.from c.loop-end.end c.args.last c.min-after.result (λ i. omega (arith, c.type_inv.copy i))
    c.requires.content c.requires.room c.loop-end-test.true c.min-after.ensures c.loop-end.invariant c.in-Some.skipped c.in-Some.ensures.0 in
    unclaimed_past c.args.copy.now c.args.start c.args.from (c.loop-end.end + c.in-Some.skipped) before.1
    (λ cut. let yes = c.claims.ensures.1 cut in let no = c.if-claims.false in absurd (cc))
