use Rattle.std.proofs.Common.{sym, subst}
use Rattle.ffv1_rice.specs.States.{greatest_depth}
use Rattle.ffv1_rice.specs.Inner.States.{IsUncounted, IsUncorrected}
use Rattle.ffv1_rice.proofs.Depths.{greatest}
use Rattle.ffv1_rice.proofs.Sums.{count_more_fits, half_more_fits, counted_halved, counted_more, counted_range}
use Rattle.ffv1_rice.proofs.state.Sums.counted.Goals as goal

pub overflow_add-self-inside : goal.overflow_add-self-inside
overflow_add-self-inside c = half_more_fits c.self.inside.count (subst (IsUncounted greatest_depth) (sym c.self.view_is) c.requires).few_counted

pub overflow_add-result : goal.overflow_add-result
overflow_add-result c = count_more_fits c.self.inside.count (subst (IsUncounted greatest_depth) (sym c.self.view_is) c.requires).few_counted

pub returns-then-self-eq128-clause-value : goal.returns-then-self-eq128-clause-value
returns-then-self-eq128-clause-value c =
    rw (← c.self.view_is) (counted_halved _ c.halved.result (subst (IsUncounted greatest_depth) (sym c.self.view_is) c.requires) c.if-self-eq128.true c.halved.ensures)

pub returns-then-self-eq128-clause-range : goal.returns-then-self-eq128-clause-range
returns-then-self-eq128-clause-range c = subst (IsUncorrected greatest_depth) (sym (returns-then-self-eq128-clause-value c)) (counted_range greatest_depth c.args.self greatest c.requires)

pub returns-else-self-eq128-clause-value : goal.returns-else-self-eq128-clause-value
returns-else-self-eq128-clause-value c =
    rw (← c.self.view_is) (counted_more _ (subst (IsUncounted greatest_depth) (sym c.self.view_is) c.requires) c.if-self-eq128.false)

pub returns-else-self-eq128-clause-range : goal.returns-else-self-eq128-clause-range
returns-else-self-eq128-clause-range c = subst (IsUncorrected greatest_depth) (sym (returns-else-self-eq128-clause-value c)) (counted_range greatest_depth c.args.self greatest c.requires)
