use Rattle.ffv1_weave.proofs.Common.{◌≡◌, ℕ, List, [], ◌∷◌, ◌++◌, Bor, take, get_or, arith, ap, sym, ◌∙◌, subst, slice_range, map_push, AreChoices, values_of}
use Rattle.ffv1_weave.proofs.References.{next_value, nowhere}
use Rattle.ffv1_weave.proofs.ChoiceSteps.{IsAsked, choices_have, choices_lack, choices_same, choices_more}
use Rattle.ffv1_weave.proofs.parts.choices_between.Goals as goal
use Rattle.ffv1_weave.proofs.parts.choices_between.Goals.{then-not-contains+in_ok-push, else-not-contains}

pub loop-version-preserved : goal.loop-version-preserved
loop-version-preserved c =
    let version : List ℕ = (get_or c.args.versions.now c.loop-version.version-index nowhere).now in
    let choice : List ℕ = slice_range version c.args.start c.args.end in
    let before : List (List ℕ) = take c.loop-version.version-index (values_of c.args.versions.now) in
    let choices : List (Bor (List ℕ)) = c.loop-version.choices.items in
    let more = next_value c.args.versions.now c.loop-version.version-index nowhere (omega arith) in
    let asked : IsAsked choices choice c.contains.result = subst (λ z. IsAsked z choice c.contains.result) c.deref.ensures.value c.contains.ensures.cases in
    elim c.if-not-contains.branch [
      | then-not-contains+in_ok-push w ↦
          let lacks = choices_lack choices choice (subst (IsAsked choices choice) w.if-not-contains.true asked) in
          let now : values_of c.if-not-contains.choices.items ≡ values_of choices ++ choice ∷ [] =
          ap (λ v. values_of v.items) w.choices-is ∙ ap values_of w.in_ok-push.ensures.items ∙ map_push (λ (p : Bor (List ℕ)). p.now) choices _ in
          subst (λ vs. AreChoices vs c.args.start c.args.end (values_of c.if-not-contains.choices.items)) more
          (subst (AreChoices (before ++ version ∷ []) c.args.start c.args.end) (sym now)
          (choices_more c.args.start c.args.end before (values_of choices) version c.loop-version.invariant lacks))
      | else-not-contains w ↦
          let has = choices_have choices choice (subst (IsAsked choices choice) w.if-not-contains.false asked) in
          subst (λ vs. AreChoices vs c.args.start c.args.end (values_of c.if-not-contains.choices.items)) more
          (subst (λ v. AreChoices (before ++ version ∷ []) c.args.start c.args.end (values_of v.items)) (sym w.choices-is)
          (choices_same c.args.start c.args.end before (values_of choices) version c.loop-version.invariant has))
    ]
