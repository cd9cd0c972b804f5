use Rattle.std.proofs.Common.{length, ap, arith, length-append}
use Rattle.matroska.proofs.SizeSteps.{one_size_more, none_left, all_found}
use Rattle.matroska.proofs.sizes.sizes_that_follow.Goals as goal

pub returns-in_default : goal.returns-in_default
returns-in_default c =
    none_left c.args.lacing c.args.bytes.now c.loop-index.sizes.items c.loop-index.rest.now c.loop-index.before c.args.count c.loop-index.invariant.so_far
    (omega arith) c.in_default.ensures

pub loop-index-preserved : goal.loop-index-preserved
loop-index-preserved c =
    let long = ap length c.loop-index.invariant.so_far.suffix in
    record {
      counted = omega (arith, c.in_ok-push.ensures.len, c.loop-index.invariant.counted);
      so_far = one_size_more c.args.lacing c.args.bytes.now c.loop-index.sizes.items c.push.new.self.items c.loop-index.rest.now c.loop-index.before
          c.in-Some.found.size c.in-Some.ensures.0 c.in-Some.found.rest.now (λ i. (c.type_inv.bytes i).fits) c.loop-index.invariant.so_far c.in-Some.ensures.1
          c.in-Some.ensures.2 c.in_ok-push.ensures.items;
      before = omega (arith, c.in-Some.ensures.3, long, length-append c.loop-index.invariant.so_far.front c.loop-index.rest.now);
    }

pub returns : goal.returns
returns c = (
  all_found c.args.lacing c.args.bytes.now c.loop-index.sizes.items c.loop-index.rest.now c.loop-index.before c.loop-index.invariant.so_far,
  omega arith,
)
