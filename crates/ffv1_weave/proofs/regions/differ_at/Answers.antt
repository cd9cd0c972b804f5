use Rattle.ffv1_weave.proofs.Common.{common_steps, [], arith, below_more, values_of}
use Rattle.ffv1_weave.proofs.References.{value_at, length-values_of, nowhere}
use Rattle.ffv1_weave.proofs.Agreeing.{agree_from}
use Rattle.ffv1_weave.proofs.regions.differ_at.Goals as goal

pub loop-version-preserved : goal.loop-version-preserved
loop-version-preserved c =
    let here = value_at c.args.versions.now c.loop-version.version-index nowhere [] (omega arith) in
    let first = value_at c.args.versions.now 0 nowhere [] (omega arith) in
    grind (arith, common_steps, below_more)

pub returns : goal.returns
returns c =
    agree_from (values_of c.args.versions.now) c.args.place
    (λ k lt. c.loop-version.invariant k (omega (arith, length-values_of c.args.versions.now)))
