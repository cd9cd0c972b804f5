use Rattle.ffv1_splice.proofs.Common.{◌≡◌, ◌∙◌, ℕ, arith, sym, slice_range, bits_of, remainder_of}
use Rattle.ffv1_splice.proofs.ShortestSteps.{judged_first, judged_on, left_on, judged_failed, judged_passed, judged_all}
use Rattle.ffv1_splice.proofs.shortest.first_end.Goals as goal

pub loop-end-init : goal.loop-end-init
loop-end-init c = (omega arith, judged_first c.args.copy.now c.args.start c.args.from (omega arith) c.requires.none)

pub returns-then-left-eq0 : goal.returns-then-left-eq0
returns-then-left-eq0 c =
    let end : ℕ = c.in-Some.end in
    let first = c.in-Some.ensures in
    let so_far =
    judged_on c.args.copy.now c.args.start c.loop-end.judged c.loop-end.next c.loop-end.left c.loop-end.invariant.1 end first.after first.none in
    let is : c.remainder_after-left.result ≡ remainder_of (bits_of (slice_range c.args.copy.now c.args.start end)) =
    left_on c.args.copy.now c.args.start c.loop-end.judged end c.loop-end.left so_far c.remainder_after-left.result c.remainder_after-left.ensures in
    judged_passed c.args.copy.now c.args.start c.loop-end.judged end c.loop-end.left so_far c.args.bound first.cut
    (omega (arith, c.loop-end.invariant.0, first.after, c.requires.content)) (sym c.if-left-eq0.true ∙ is)
    (omega (arith, first.within, c.min-last.ensures)) (omega (arith, first.within, c.min-last.ensures, c.requires.room))

pub loop-end-preserved : goal.loop-end-preserved
loop-end-preserved c =
    let end : ℕ = c.in-Some.end in
    let first = c.in-Some.ensures in
    let so_far =
    judged_on c.args.copy.now c.args.start c.loop-end.judged c.loop-end.next c.loop-end.left c.loop-end.invariant.1 end first.after first.none in
    let is : c.remainder_after-left.result ≡ remainder_of (bits_of (slice_range c.args.copy.now c.args.start end)) =
    left_on c.args.copy.now c.args.start c.loop-end.judged end c.loop-end.left so_far c.remainder_after-left.result c.remainder_after-left.ensures in (
      omega (arith, c.loop-end.invariant.0, first.after),
      judged_failed c.args.copy.now c.args.start c.loop-end.judged end c.loop-end.left so_far c.remainder_after-left.result is c.if-left-eq0.false,
    )

pub returns : goal.returns
returns c =
    judged_all c.args.copy.now c.args.start c.loop-end.judged c.loop-end.next c.loop-end.left c.loop-end.invariant.1 c.args.bound (λ i. omega (arith, c.type_inv.copy i))
    (λ later past within short. c.in_default.ensures later past (omega (arith, within, short, c.min-last.ensures, c.saturating_add.ensures)))
