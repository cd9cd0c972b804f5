use Rattle.ffv1_weave.proofs.Common.{[], ◌∙◌, arith, below_more, get_or_default, values_of}
use Rattle.ffv1_weave.proofs.References.{value_at, length-values_of, nowhere}
use Rattle.ffv1_weave.proofs.segments.is_boundary.Goals as goal

pub loop-one-preserved : goal.loop-one-preserved
loop-one-preserved c =
    let here = value_at c.args.versions.now c.loop-one.one-index nowhere [] c.loop-one-test.true in
    below_more _ _ c.loop-one.invariant (λ other there parted. let no = c.if-is_parted.ensures.1 (other, there, rw (← here) parted) in absurd (cc))

pub returns : goal.returns
returns c = (
  λ no. absurd (cc),
  λ boundary.
      let there = boundary.one_there in
      let few = length-values_of c.args.versions.now in
      absurd (c.loop-one.invariant there.0 (omega arith) boundary.other boundary.other_there
      (rw (get_or_default (values_of c.args.versions.now) there.0 [] boundary.one there.1 ∙ there.2) boundary.parted)),
)
