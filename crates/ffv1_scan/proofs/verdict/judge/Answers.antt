use Rattle.std.proofs.Common.{length, count_by, arith, ap, subst}
use Rattle.std.proofs.lemmas.List.Sums.{count_by-le-length}
use Rattle.ffv1_slice.specs.Ending.{EndsAs}
use Rattle.ffv1_scan.specs.Verdicts.{is_passing}
use Rattle.ffv1_scan.proofs.verdict.judge.Goals as goal
use Rattle.ffv1_scan.proofs.ScanSteps.{first_counted}

pub overflow_add-links : goal.overflow_add-links
overflow_add-links c =
    let more = ap length c.in-Some.ensures.some in
    omega (arith, more, c.loop-link.invariant.links, c.new-chain.ensures.few)

pub overflow_add-passing : goal.overflow_add-passing
overflow_add-passing c =
    let more = first_counted c.if-is_passing.ensures c.in-Some.ensures.some in
    omega (arith, more, c.loop-link.invariant.passing, count_by-le-length is_passing c.new-chain.result.left, c.new-chain.ensures.few)

pub loop-link-preserved : goal.loop-link-preserved
loop-link-preserved c =
    let more = first_counted c.if-is_passing.ensures c.in-Some.ensures.some in
    record {
      links = omega (arith, ap length c.in-Some.ensures.some, c.loop-link.invariant.links);
      passing = omega (arith, more, c.loop-link.invariant.passing);
    }

pub loop-link-preserved-then-is_passing : goal.loop-link-preserved-then-is_passing
loop-link-preserved-then-is_passing c =
    let more = first_counted c.if-is_passing.ensures c.in-Some.ensures.some in
    record {
      links = omega (arith, ap length c.in-Some.ensures.some, c.loop-link.invariant.links);
      passing = omega (arith, more, c.loop-link.invariant.passing);
    }

pub loop-link-smaller : goal.loop-link-smaller
loop-link-smaller c = omega (arith, ap length c.in-Some.ensures.some)

pub loop-link-smaller-then-is_passing : goal.loop-link-smaller-then-is_passing
loop-link-smaller-then-is_passing c = omega (arith, ap length c.in-Some.ensures.some)

pub returns : goal.returns
returns c =
    let inv = c.loop-link.invariant in
    let none = c.in_default.ensures.none in
    record {
      links = c.new-chain.result.left;
      are_links = c.new-chain.ensures.links;
      count = omega (arith, inv.links, ap length none);
      passing = omega (arith, inv.passing, ap (count_by is_passing) none);
      ends = subst (λ (payload : _). EndsAs payload c.end-end.result) c.new-chain.ensures.payload c.end-end.ensures;
    }
