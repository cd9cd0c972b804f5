use Rattle.ffv1_splice.proofs.Common.{[], length, arith, ap, below_more, value_at, nowhere}
use Rattle.ffv1_splice.proofs.splicing.other_length.Goals as goal

pub loop-index-preserved : goal.loop-index-preserved
loop-index-preserved c =
    let here = value_at c.args.copies.now c.loop-index.index nowhere [] (omega arith) in
    let first = value_at c.args.copies.now 0 nowhere [] (omega arith) in
    below_more _ _ c.loop-index.invariant (omega (arith, ap length here, ap length first, c.if-copy-copies.false))
