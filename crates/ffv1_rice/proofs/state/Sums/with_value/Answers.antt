use Rattle.std.proofs.Common.{sym, subst}
use Rattle.ffv1_rice.specs.States.{IsState, greatest_depth}
use Rattle.ffv1_rice.specs.Inner.States.{IsUncounted}
use Rattle.ffv1_rice.proofs.Sums.{with_value_drift_fits, with_value_errors_fit, with_value_is, with_value_range}
use Rattle.ffv1_rice.proofs.state.Sums.with_value.Goals as goal

pub overflow_add-result : goal.overflow_add-result
overflow_add-result c = with_value_drift_fits _ c.args.value (subst (IsState greatest_depth) (sym c.self.view_is) c.requires.sums) c.requires.range

pub overflow_add-result-2 : goal.overflow_add-result-2
overflow_add-result-2 c =
    with_value_errors_fit _ c.unsigned_abs.result (subst (IsState greatest_depth) (sym c.self.view_is) c.requires.sums) c.unsigned_abs.ensures.bound

pub returns-clause-value : goal.returns-clause-value
returns-clause-value c =
    rw (← c.self.view_is)
    (with_value_is _ c.args.value c.unsigned_abs.result (subst (IsState greatest_depth) (sym c.self.view_is) c.requires.sums) c.requires.range c.unsigned_abs.ensures.value)

pub returns-clause-range : goal.returns-clause-range
returns-clause-range c =
    subst (IsUncounted greatest_depth) (sym (returns-clause-value c)) (with_value_range greatest_depth c.args.self c.args.value c.requires.sums c.requires.range)
