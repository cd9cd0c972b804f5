use Rattle.std.proofs.Common.{ℕ, List, [], ◌∷◌, ◌++◌, get_or, take, arith, sym, subst}
use Rattle.ffv1_splice.specs.Inner.Tally.{Tallies}
use Rattle.ffv1_weave.specs.Checks.{PassesBy}
use Rattle.ffv1_weave.specs.References.{values_of}
use Rattle.ffv1_weave.proofs.References.{next_value, all_values, nowhere}
use Rattle.ffv1_mend.specs.Passing.{IsPassing}
use Rattle.ffv1_mend.specs.Inner.Passing.{passing_counted}
use Rattle.ffv1_mend.proofs.PassingSteps.{one_failed, one_passed}
use Rattle.ffv1_mend.proofs.passing.passing_of.Goals as goal
use Rattle.ffv1_mend.proofs.passing.passing_of.Goals.{then-passes, else-passes}

pub loop-version-preserved : goal.loop-version-preserved
loop-version-preserved c =
    let version : List ℕ = (get_or c.args.versions.now c.loop-version.version-index nowhere).now in
    let before : List (List ℕ) = take c.loop-version.version-index (values_of c.args.versions.now) in
    let more = next_value c.args.versions.now c.loop-version.version-index nowhere (omega arith) in
    elim c.if-passes.branch [
      | then-passes w ↦
          let passes : PassesBy c.args.check version = c.passes.ensures.0 w.if-passes.true in
          subst (λ z. Tallies (IsPassing c.args.check z) (passing_counted c.if-passes.passing)) more
          (subst (λ p. Tallies (IsPassing c.args.check (before ++ version ∷ [])) (passing_counted p)) (sym w.passing-is)
          (one_passed c.args.check before version (passing_counted c.loop-version.passing) (passing_counted w.with-passing.result) passes w.with-passing.ensures
          c.loop-version.invariant))
      | else-passes w ↦
          let fails : PassesBy c.args.check version → ⊥ = λ p. let t = c.passes.ensures.1 p in let f = w.if-passes.false in absurd (cc) in
          subst (λ z. Tallies (IsPassing c.args.check z) (passing_counted c.if-passes.passing)) more
          (subst (λ p. Tallies (IsPassing c.args.check (before ++ version ∷ [])) (passing_counted p)) (sym w.passing-is)
          (one_failed c.args.check before version (passing_counted c.loop-version.passing) fails c.loop-version.invariant))
    ]

pub returns : goal.returns
returns c =
    subst (λ z. Tallies (IsPassing c.args.check z) (passing_counted c.loop-version.passing))
    (all_values c.args.versions.now c.loop-version.version-index (omega arith)) c.loop-version.invariant
