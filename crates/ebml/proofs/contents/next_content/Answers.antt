use Rattle.std.proofs.Common.{◌≡◌, ◌+◌, ◌-◌, length, arith, subst}
use Rattle.ebml.specs.Contents.{AreContentsAt}
use Rattle.ebml.proofs.ContentList.{other_passed, one_found, other_placed_passed, one_placed_found}
use Rattle.ebml.proofs.contents.next_content.Goals as goal

pub returns-then-element-id-clause-found : goal.returns-then-element-id-clause-found
returns-then-element-id-clause-found c = λ contents are.
    c.loop-element.invariant.without _ (one_found c.args.id c.loop-element.left.now c.split_at.result.0.now c.split_at.result.1.now c.in-Some.element.length c.in-Some.element.head
    c.split_at.ensures.front c.split_at.ensures.back c.in-Some.ensures.found.1 c.if-element-id.true contents are)

pub returns-then-element-id-clause-placed : goal.returns-then-element-id-clause-placed
returns-then-element-id-clause-placed c = λ from placed are.
    c.loop-element.invariant.placed from _ (one_placed_found c.args.id from c.args.bytes.now c.loop-element.left.now c.split_at.result.0.now c.split_at.result.1.now
    c.in-Some.element.length c.in-Some.element.head c.loop-element.invariant.within c.in-Some.ensures.found.0 c.split_at.ensures.front c.split_at.ensures.back
    c.in-Some.ensures.found.1 c.if-element-id.true placed are)

pub loop-element-init : goal.loop-element-init
loop-element-init c = record {
  without = λ contents are. are;
  placed = λ from placed are.
      let none : from + (length c.args.bytes.now - length c.args.bytes.now) ≡ from = omega arith in
      subst (λ p. AreContentsAt c.args.id p c.args.bytes.now placed) none are;
  within = omega arith;
}

pub loop-element-preserved : goal.loop-element-preserved
loop-element-preserved c = record {
  without = λ contents are.
      c.loop-element.invariant.without contents (other_passed c.args.id c.loop-element.left.now c.split_at.result.1.now c.in-Some.element.length c.in-Some.element.head
      c.split_at.ensures.back c.in-Some.ensures.found.1 c.if-element-id.false contents are);
  placed = λ from placed are.
      c.loop-element.invariant.placed from placed (other_placed_passed c.args.id from c.args.bytes.now c.loop-element.left.now c.split_at.result.1.now c.in-Some.element.length
      c.in-Some.element.head c.loop-element.invariant.within c.in-Some.ensures.found.0 c.split_at.ensures.back c.in-Some.ensures.found.1 c.if-element-id.false placed are);
  within = omega (arith, c.split_at.ensures.back_len, c.loop-element.invariant.within);
}
