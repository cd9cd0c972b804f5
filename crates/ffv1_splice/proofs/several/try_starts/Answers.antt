use Rattle.ffv1_splice.proofs.Common.{◌+◌, sym, subst, arith, weave_tally, values_of, HasContent, AreTriedBefore, tried_tally}
use Rattle.ffv1_splice.proofs.SeveralSteps.{tried_next, tried_end}
use Rattle.ffv1_splice.proofs.several.try_starts.Goals as goal

pub loop-start-preserved : goal.loop-start-preserved
loop-start-preserved c =
    let content : HasContent c.in-Some.start c.args.end = c.in-Some.ensures.next.there.content in
    record {
      within = omega arith;
      tried = subst (AreTriedBefore (values_of c.args.copies.now) c.args.end (c.in-Some.start + 1)) (sym c.with-tried.ensures)
          (tried_next (values_of c.args.copies.now) c.args.end c.loop-start.from c.in-Some.start c.in-Some.ensures.next (tried_tally c.loop-start.tried)
          (weave_tally c.in_ok-outcome.outcome) c.in_ok-outcome.ensures c.loop-start.invariant.tried);
    }

pub returns-clause-tried : goal.returns-clause-tried
returns-clause-tried c =
    tried_end (values_of c.args.copies.now) c.args.end c.loop-start.from c.loop-start.invariant.within c.in_default.ensures.next
    (tried_tally c.loop-start.tried) c.loop-start.invariant.tried
