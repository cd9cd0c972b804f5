use Rattle.ffv1_splice.proofs.Common.{ℕ, List, [], get_or, arith, sym, ap, slice_range, values_of, value_at, length-values_of, nowhere}
use Rattle.ffv1_splice.proofs.LeastSteps.{least_more, ord_min-now}
use Rattle.ffv1_splice.proofs.tally.least_at.Goals as goal

pub loop-copy-preserved : goal.loop-copy-preserved
loop-copy-preserved c =
    let few = length-values_of c.args.copies.now in
    let copy : List ℕ = (get_or c.args.copies.now c.loop-copy.copy-index nowhere).now in
    rw (ord_min-now c.min-least.result c.loop-copy.least _ c.min-least.ensures)
    (least_more (values_of c.args.copies.now) c.args.start c.args.end c.loop-copy.copy-index c.loop-copy.least.now (slice_range copy c.args.start c.args.end)
    (omega arith) (ap (λ z. slice_range z c.args.start c.args.end) (sym (value_at c.args.copies.now c.loop-copy.copy-index nowhere [] (omega arith))))
    c.loop-copy.invariant)
