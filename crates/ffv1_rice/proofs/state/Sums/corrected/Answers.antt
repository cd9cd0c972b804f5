use Rattle.std.proofs.Common.{sym, subst}
use Rattle.ffv1_rice.specs.States.{IsState, greatest_depth}
use Rattle.ffv1_rice.specs.Inner.States.{IsUncorrected}
use Rattle.ffv1_rice.proofs.Sums.{count_fits, raised_fits, one_less_fits, bias_less_fits, lowered_fits, bias_more_fits, corrected_fallen, corrected_risen, corrected_same, corrected_range}
use Rattle.ffv1_rice.proofs.state.Sums.corrected.Goals as goal

pub overflow_cast-count : goal.overflow_cast-count
overflow_cast-count c = count_fits c.self.inside.count (subst (IsUncorrected greatest_depth) (sym c.self.view_is) c.requires).few_counted

pub overflow_add-self-inside : goal.overflow_add-self-inside
overflow_add-self-inside c = raised_fits _ (subst (IsUncorrected greatest_depth) (sym c.self.view_is) c.requires)

pub overflow_add-self-inside-then-self-count-le0 : goal.overflow_add-self-inside-then-self-count-le0
overflow_add-self-inside-then-self-count-le0 c = raised_fits _ (subst (IsUncorrected greatest_depth) (sym c.self.view_is) c.requires)

pub overflow_sub-count : goal.overflow_sub-count
overflow_sub-count c = one_less_fits c.self.inside.count (subst (IsUncorrected greatest_depth) (sym c.self.view_is) c.requires).few_counted

pub overflow_sub-self-inside : goal.overflow_sub-self-inside
overflow_sub-self-inside c = bias_less_fits _ (subst (IsUncorrected greatest_depth) (sym c.self.view_is) c.requires)

pub overflow_sub-self-inside-then-self-gt0 : goal.overflow_sub-self-inside-then-self-gt0
overflow_sub-self-inside-then-self-gt0 c = lowered_fits _ (subst (IsUncorrected greatest_depth) (sym c.self.view_is) c.requires)

pub overflow_add-self-inside-then-self-gt0 : goal.overflow_add-self-inside-then-self-gt0
overflow_add-self-inside-then-self-gt0 c = bias_more_fits _ (subst (IsUncorrected greatest_depth) (sym c.self.view_is) c.requires)

pub returns-then-self-count-le0-clause-value : goal.returns-then-self-count-le0-clause-value
returns-then-self-count-le0-clause-value c =
    rw (← c.self.view_is)
    (corrected_fallen _ c.max.result c.max-then-self-count-le0.result (subst (IsUncorrected greatest_depth) (sym c.self.view_is) c.requires) c.if-self-count-le0.true
    c.max.ensures.value c.max-then-self-count-le0.ensures.value)

pub returns-then-self-count-le0-clause-range : goal.returns-then-self-count-le0-clause-range
returns-then-self-count-le0-clause-range c = subst (IsState greatest_depth) (sym (returns-then-self-count-le0-clause-value c)) (corrected_range greatest_depth c.args.self c.requires)

pub returns-then-self-gt0-clause-value : goal.returns-then-self-gt0-clause-value
returns-then-self-gt0-clause-value c =
    rw (← c.self.view_is)
    (corrected_risen _ c.min.result c.min-then-self-gt0.result (subst (IsUncorrected greatest_depth) (sym c.self.view_is) c.requires) c.if-self-count-le0.false
    c.if-self-gt0.true c.min.ensures.value c.min-then-self-gt0.ensures.value)

pub returns-then-self-gt0-clause-range : goal.returns-then-self-gt0-clause-range
returns-then-self-gt0-clause-range c = subst (IsState greatest_depth) (sym (returns-then-self-gt0-clause-value c)) (corrected_range greatest_depth c.args.self c.requires)

pub returns-clause-value : goal.returns-clause-value
returns-clause-value c =
    rw (← c.self.view_is) (corrected_same _ (subst (IsUncorrected greatest_depth) (sym c.self.view_is) c.requires) c.if-self-count-le0.false c.if-self-gt0.false)

pub returns-clause-range : goal.returns-clause-range
returns-clause-range c = subst (IsState greatest_depth) (sym (returns-clause-value c)) (corrected_range greatest_depth c.args.self c.requires)
