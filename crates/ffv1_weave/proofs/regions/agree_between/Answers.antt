use Rattle.ffv1_weave.proofs.Common.{[], List, ℕ, ◌∙◌, ◌-◌, arith, ap, refl, sym, below_more, get_or, slice_range, slice_eq-Decides, not-false, Decides-eqb, values_of}
use Rattle.ffv1_weave.proofs.Choices.{range_at}
use Rattle.ffv1_weave.proofs.References.{value_at, length-values_of, nowhere}
use Rattle.ffv1_weave.proofs.Agreeing.{agree_from}
use Rattle.ffv1_weave.proofs.regions.agree_between.Goals as goal

pub loop-version-preserved : goal.loop-version-preserved
loop-version-preserved c =
    let here = value_at c.args.versions.now c.loop-version.version-index nowhere [] (omega arith) in
    let first = value_at c.args.versions.now 0 nowhere [] (omega arith) in
    below_more _ _ c.loop-version.invariant (
    ap (λ v. slice_range v c.args.start c.args.end) here
    ∙ (slice_eq-Decides Decides-eqb _ _ _ refl).0 (not-false _ (sym c.ne.ensures ∙ c.if-ne.false))
    ∙ ap (λ v. slice_range v c.args.start c.args.end) (sym first))

pub returns : goal.returns
returns c = λ yes i low lt.
    let versions : List (List ℕ) = values_of c.args.versions.now in
    agree_from versions i
    (λ k few. sym (range_at (get_or versions k []) c.args.start c.args.end i low lt)
    ∙ ap (λ z. get_or z (i - c.args.start) 0) (c.loop-version.invariant k (omega (arith, length-values_of c.args.versions.now)))
    ∙ range_at (get_or versions 0 []) c.args.start c.args.end i low lt)
