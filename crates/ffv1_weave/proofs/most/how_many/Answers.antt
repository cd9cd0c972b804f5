use Rattle.ffv1_weave.proofs.Common.{common_steps, ◌≡◌, ℕ, ◌+◌, List, [], ◌∷◌, ◌++◌, take, get_or, arith, sym, subst, Contains, slice_range, false≢true, Decides-eqb, slice_eq-Decides, values_of}
use Rattle.ffv1_weave.proofs.References.{value_at, length-values_of, next_value, nowhere}
use Rattle.ffv1_weave.proofs.MostSteps.{have_none, have_same, have_more, not_before}
use Rattle.ffv1_weave.proofs.most.how_many.Goals as goal
use Rattle.ffv1_weave.proofs.most.how_many.Goals.{then-eq, else-eq}

pub loop-version-init : goal.loop-version-init
loop-version-init c = record { counted = have_none c.args.start c.args.end c.args.choice.now; bound = omega arith }

pub loop-version-preserved : goal.loop-version-preserved
loop-version-preserved c =
    let i : ℕ = c.loop-version.version-index in
    let start : ℕ = c.args.start in
    let end : ℕ = c.args.end in
    let choice : List ℕ = c.args.choice.now in
    let version : List ℕ = (get_or c.args.versions.now i nowhere).now in
    let before : List (List ℕ) = take i (values_of c.args.versions.now) in
    let next : before ++ version ∷ [] ≡ take (i + 1) (values_of c.args.versions.now) = next_value c.args.versions.now i nowhere (omega arith) in
    let same = slice_eq-Decides Decides-eqb (slice_range version start end) choice c.eq.result c.eq.ensures in
    let new : Contains before version → ⊥ = λ there.
    not_before (values_of c.args.versions.now) i c.requires.distinct (omega (arith, length-values_of c.args.versions.now))
    (subst (Contains before) (sym (value_at c.args.versions.now i nowhere [] (omega arith))) there) in
    let bound = c.loop-version.invariant.bound in
    elim c.if-eq.branch [
      | then-eq w ↦ grind (arith, common_steps, have_more)
      | else-eq w ↦ grind (arith, common_steps, have_same, false≢true)
    ]
