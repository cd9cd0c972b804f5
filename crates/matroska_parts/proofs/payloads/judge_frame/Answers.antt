use Rattle.std.proofs.Common.{length, count_by, arith, ap, subst}
use Rattle.std.proofs.lemmas.List.Sums.{count_by-le-length}
use Rattle.ffv1_scan.specs.Verdicts.{is_passing}
use Rattle.ffv1_scan.proofs.ScanSteps.{first_counted}
use Rattle.ffv1_slice.specs.Ending.{EndsAs}
use Rattle.matroska_parts.specs.Payloads.{passing_size}
use Rattle.matroska_parts.proofs.FrameSteps.{first_sized, size_fits}
use Rattle.matroska_parts.proofs.payloads.judge_frame.Goals as goal

pub overflow_add-links : goal.overflow_add-links
overflow_add-links c =
    let more = ap length c.in-Some.ensures.some in
    omega (arith, more, c.loop-link.invariant.links, c.new-chain.ensures.few)

pub overflow_add-passing : goal.overflow_add-passing
overflow_add-passing c =
    let more = first_counted c.if-is_passing.ensures c.in-Some.ensures.some in
    omega (arith, more, c.loop-link.invariant.passing, count_by-le-length is_passing c.new-chain.result.left, c.new-chain.ensures.few)

pub overflow_add-size : goal.overflow_add-size
overflow_add-size c =
    let sized = first_sized c.if-is_passing.ensures c.in-Some.ensures.some in
    let fits = size_fits c.args.bytes.now c.new-chain.result.left c.requires c.new-chain.ensures.links c.new-chain.ensures.few in
    omega (arith, sized, c.loop-link.invariant.size, ap length c.bytes.ensures.value, fits)

pub loop-link-preserved : goal.loop-link-preserved
loop-link-preserved c =
    let more = first_counted c.if-is_passing.ensures c.in-Some.ensures.some in
    let sized = first_sized c.if-is_passing.ensures c.in-Some.ensures.some in
    record {
      links = omega (arith, ap length c.in-Some.ensures.some, c.loop-link.invariant.links);
      passing = omega (arith, more, c.loop-link.invariant.passing);
      size = omega (arith, sized, c.loop-link.invariant.size);
    }

pub loop-link-preserved-then-is_passing : goal.loop-link-preserved-then-is_passing
loop-link-preserved-then-is_passing c =
    let more = first_counted c.if-is_passing.ensures c.in-Some.ensures.some in
    let sized = first_sized c.if-is_passing.ensures c.in-Some.ensures.some in
    record {
      links = omega (arith, ap length c.in-Some.ensures.some, c.loop-link.invariant.links);
      passing = omega (arith, more, c.loop-link.invariant.passing);
      size = omega (arith, sized, c.loop-link.invariant.size, ap length c.bytes.ensures.value);
    }

pub loop-link-smaller : goal.loop-link-smaller
loop-link-smaller c = omega (arith, ap length c.in-Some.ensures.some)

pub loop-link-smaller-then-is_passing : goal.loop-link-smaller-then-is_passing
loop-link-smaller-then-is_passing c = omega (arith, ap length c.in-Some.ensures.some)

pub returns : goal.returns
returns c =
    let inv = c.loop-link.invariant in
    let none = c.in_default.ensures.none in
    let ends = subst (λ (payload : _). EndsAs payload c.end-end.result) c.new-chain.ensures.payload c.end-end.ensures in
    record {
      verdict = record {
        links = c.new-chain.result.left;
        are_links = c.new-chain.ensures.links;
        count = omega (arith, inv.links, ap length none);
        passing = omega (arith, inv.passing, ap (count_by is_passing) none);
        ends = ends;
      };
      passing = omega (arith, inv.size, ap passing_size none, ap passing_size c.new-chain.ensures.value);
    }
