use Rattle.std.proofs.Common.{sym, ap, subst, ◌∙◌}
use Rattle.ffv1_rice.specs.declared.state.VlcState.TheInside.{Inside}
use Rattle.ffv1_rice.specs.States.{IsState, greatest_depth}
use Rattle.ffv1_rice.proofs.Sums.{IsDifference-of_z, count_fits, doubled_more_fits, double_fits, flip_fits, flipped_range, flipped_twice, flipped_not}
use Rattle.ffv1_rice.proofs.state.VlcState.flipped.Goals as goal

pub overflow_mul-self-inside-inside : goal.overflow_mul-self-inside-inside
overflow_mul-self-inside-inside c = double_fits _ (subst (λ (i : Inside). IsState greatest_depth i.sums) (sym c.self-inside.view_is) c.self.invariant)

pub overflow_cast-self-inside-inside : goal.overflow_cast-self-inside-inside
overflow_cast-self-inside-inside c =
    count_fits c.self-inside.inside.0.0.count (subst (λ (i : Inside). IsState greatest_depth i.sums) (sym c.self-inside.view_is) c.self.invariant).few_counted

pub overflow_add-self-inside-inside : goal.overflow_add-self-inside-inside
overflow_add-self-inside-inside c =
    doubled_more_fits _ (subst (λ (i : Inside). IsState greatest_depth i.sums) (sym c.self-inside.view_is) c.self.invariant)

pub overflow_sub-result : goal.overflow_sub-result
overflow_sub-result c = flip_fits c.args.coded c.requires

pub returns-then-self-lt0-clause-again : goal.returns-then-self-lt0-clause-again
returns-then-self-lt0-clause-again c =
    rw (← (ap (λ (i : Inside). i.sums) c.self-inside.view_is ∙ c.self.view_is))
    (flipped_twice _ c.args.coded (subst (λ (i : Inside). IsState greatest_depth i.sums) (sym c.self-inside.view_is) c.self.invariant) c.requires c.if-self-lt0.true)

pub returns-then-self-lt0-clause-range : goal.returns-then-self-lt0-clause-range
returns-then-self-lt0-clause-range c = λ n depth bounds. flipped_range n c.args.coded depth bounds

pub returns-else-self-lt0-clause-again : goal.returns-else-self-lt0-clause-again
returns-else-self-lt0-clause-again c =
    rw (← (ap (λ (i : Inside). i.sums) c.self-inside.view_is ∙ c.self.view_is))
    (flipped_not _ c.args.coded (subst (λ (i : Inside). IsState greatest_depth i.sums) (sym c.self-inside.view_is) c.self.invariant) c.requires c.if-self-lt0.false)

pub returns-else-self-lt0-clause-range : goal.returns-else-self-lt0-clause-range
returns-else-self-lt0-clause-range c = λ n depth bounds. IsDifference-of_z n c.args.coded depth bounds
