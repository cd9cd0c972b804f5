use Rattle.std.proofs.Common.{sym, ap, subst, ◌∙◌, arith}
use Rattle.ffv1_rice.specs.declared.state.VlcState.TheInside.{Inside}
use Rattle.ffv1_rice.specs.States.{IsState, greatest_depth}
use Rattle.ffv1_rice.proofs.Parameter.{near, parameter_near, parameter_above, above_few, parameter_low}
use Rattle.ffv1_rice.proofs.state.VlcState.k.Goals as goal

pub returns-then-self-k : goal.returns-then-self-k
returns-then-self-k c =
    let bounds = subst (λ (i : Inside). IsState greatest_depth i.sums) (sym c.self-inside.view_is) c.self.invariant in
    let n = near _ c.saturating_sub-k.result bounds c.saturating_sub-k.ensures in
    rw (← (ap (λ (i : Inside). i.sums) c.self-inside.view_is ∙ c.self.view_is))
    (record { parameter = parameter_near _ _ n (omega (arith, n.fits, c.if-self-k.true)); bound = n.few; low = λ m depth given. parameter_low m _ _ given (parameter_near _ _ n (omega (arith, n.fits, c.if-self-k.true))) })

pub returns-else-self-k : goal.returns-else-self-k
returns-else-self-k c =
    let bounds = subst (λ (i : Inside). IsState greatest_depth i.sums) (sym c.self-inside.view_is) c.self.invariant in
    let n = near _ c.saturating_sub-k.result bounds c.saturating_sub-k.ensures in
    rw (← (ap (λ (i : Inside). i.sums) c.self-inside.view_is ∙ c.self.view_is))
    (record {
      parameter = parameter_above _ _ n (omega (arith, n.fits, c.if-self-k.false));
      bound = above_few _ _ bounds n (omega (arith, n.fits, c.if-self-k.false));
      low = λ m depth given. parameter_low m _ _ given (parameter_above _ _ n (omega (arith, n.fits, c.if-self-k.false)));
    })
