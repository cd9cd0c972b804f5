use Rattle.std.proofs.Common.{sym, ap, subst, ◌∙◌}
use Rattle.ffv1_rice.specs.declared.state.VlcState.TheInside.{Inside}
use Rattle.ffv1_rice.specs.States.{IsState, greatest_depth}
use Rattle.ffv1_rice.proofs.Depths.{widest}
use Rattle.ffv1_rice.proofs.Sums.{IsDifference-of_z, biased_fits, coded_value-fold}
use Rattle.ffv1_rice.proofs.state.VlcState.value.Goals as goal

pub overflow_add-coded : goal.overflow_add-coded
overflow_add-coded c =
    biased_fits _ c.args.coded (subst (λ (i : Inside). IsState greatest_depth i.sums) (sym c.self-inside.view_is) c.self.invariant)
    (widest c.args.depth c.args.coded c.requires.depth c.requires.range)

pub returns-clause-coded : goal.returns-clause-coded
returns-clause-coded c =
    rw (← (ap (λ (i : Inside). i.sums) c.self-inside.view_is ∙ c.self.view_is))
    (coded_value-fold c.args.depth _ c.args.coded c.fold.result c.requires.depth
    (subst (λ (i : Inside). IsState greatest_depth i.sums) (sym c.self-inside.view_is) c.self.invariant) c.requires.range c.fold.ensures.range
    c.fold.ensures.value)

pub returns-clause-range : goal.returns-clause-range
returns-clause-range c = IsDifference-of_z c.args.depth c.fold.result c.requires.depth c.fold.ensures.range
