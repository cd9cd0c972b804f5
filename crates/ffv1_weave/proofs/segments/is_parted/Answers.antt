use Rattle.ffv1_weave.proofs.Common.{[], below_more, inl, inr, subst, rules, get_or_default, AreParted}
use Rattle.ffv1_weave.proofs.References.{value_at, length-values_of, nowhere}
use Rattle.ffv1_weave.proofs.segments.is_parted.Goals as goal

pub loop-other-preserved : goal.loop-other-preserved
loop-other-preserved c =
    let here = value_at c.args.others.now c.loop-other.other-index nowhere [] c.loop-other-test.true in
    below_more _ _ c.loop-other.invariant
    (λ parted. elim (subst (λ other. AreParted c.args.distance c.args.one.now other c.args.place) here parted) [
      | inl begins ↦ let no = c.if-begins_streak.ensures.1 begins in absurd (cc)
      | inr ends ↦ let no = c.if-ends_streak.ensures.1 ends in absurd (cc)
    ])

pub returns : goal.returns
returns c = search (rules, length-values_of, get_or_default)
