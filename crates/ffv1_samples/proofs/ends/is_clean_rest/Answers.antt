use Rattle.std.proofs.Common.{◌∷◌, [], ◌++◌, length, arith, ap, ◌∙◌}
use Rattle.ffv1_samples.proofs.Rests.{rest_unclean, rest_clean, rest_goes_on}
use Rattle.ffv1_samples.proofs.ends.is_clean_rest.Goals as goal

pub returns-in-Some-true : goal.returns-in-Some-true
returns-in-Some-true c =
    rest_unclean c.args.bits.left c.loop-count.bits.left c.bit.new.self.left c.loop-count.invariant.same
    (c.in-Some-true.ensures.some.begins ∙ ap (λ b. (b ∷ []) ++ c.bit.new.self.left) c.in-Some-true.field-0-test)

pub loop-count-preserved : goal.loop-count-preserved
loop-count-preserved c =
    let begins = c.in-Some-false.ensures.some.begins ∙ ap (λ b. (b ∷ []) ++ c.bit.new.self.left) c.in-Some-false.field-0-test in
    record {
      few = omega (arith, ap length begins, c.loop-count.invariant.few);
      same = rest_goes_on c.args.bits.left c.loop-count.bits.left c.bit.new.self.left c.loop-count.invariant.same begins;
    }

pub returns-in-None : goal.returns-in-None
returns-in-None c =
    rest_clean c.args.bits.left c.loop-count.bits.left (omega (arith, c.left.ensures.value, c.if-left-ge8.false)) c.loop-count.invariant.same c.in-None.ensures.none

pub returns : goal.returns
returns c = absurd (omega (arith, c.loop-count.invariant.few, c.loop-count-test.false))
