use Rattle.std.proofs.Common.{arith}
use Rattle.ffv1_slice.specs.Chain.{FooterGives}
use Rattle.ffv1_slice.specs.Chain.IsEnd.{before}
use Rattle.ffv1_slice.proofs.chain.last_end.Goals as goal

pub loop-start-preserved : goal.loop-start-preserved
loop-start-preserved c =
    let cut : FooterGives c.args.payload.now c.in-Some.start c.loop-start.place = c.in-Some.ensures.cut in
    record { within = omega arith; is_end = before c.loop-start.invariant.is_end cut }
