use Rattle.std.proofs.Common.{[], below_more, refl, ◌∙◌}
use Rattle.ffv1_weave.proofs.References.{nowhere, value_at}
use Rattle.ffv1_mend.proofs.PlainSteps.{two_versions}
use Rattle.ffv1_mend.proofs.plain.plain_state.Goals as goal

pub returns-then-not-is_same : goal.returns-then-not-is_same
returns-then-not-is_same c = (
  two_versions c.args.versions.now c.args.from.now c.requires c.loop-version.version-index c.loop-version-test.true
      (λ same. let found = c.is_same.ensures.1 same in let apart = c.if-not-is_same.true in absurd (cc)),
  refl,
)

pub loop-version-preserved : goal.loop-version-preserved
loop-version-preserved c =
    below_more _ _ c.loop-version.invariant
    (value_at c.args.versions.now c.loop-version.version-index nowhere [] c.loop-version-test.true ∙ c.is_same.ensures.0 c.if-not-is_same.false)
