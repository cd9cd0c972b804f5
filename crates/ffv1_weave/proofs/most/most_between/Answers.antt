use Rattle.ffv1_weave.proofs.Common.{◌≡◌, ℕ, ◌<◌, List, [], ◌∷◌, ◌++◌, Bor, length, get_or, arith, ap, sym, ◌∙◌, subst, map_push, AreChoices, values_of}
use Rattle.ffv1_weave.proofs.References.{value_at, length-values_of, nowhere}
use Rattle.ffv1_weave.proofs.MostSteps.{Have, most_fewer, most_more, most_too, most_all}
use Rattle.ffv1_weave.proofs.most.most_between.Goals as goal
use Rattle.ffv1_weave.proofs.most.most_between.Goals.{then-count-greatest, else-count-greatest, then-count-greatest-2+in_ok-push, else-count-greatest-2}

pub loop-choice-preserved : goal.loop-choice-preserved
loop-choice-preserved c =
    let versions : List (List ℕ) = values_of c.args.versions.now in
    let start : ℕ = c.args.start in
    let end : ℕ = c.args.end in
    let lent : List (Bor (List ℕ)) = c.as_slice-choice-items.result.now in
    let choices : List (List ℕ) = values_of lent in
    let i : ℕ = c.loop-choice.choice-index in
    let most : List (Bor (List ℕ)) = c.loop-choice.most.items in
    let greatest : ℕ = c.loop-choice.greatest in
    let count : ℕ = c.how_many-count.result in
    let are : AreChoices versions start end choices = rw c.as_slice-choice-items.ensures.value c.in_ok-choices.ensures in
    let choice : (get_or lent i nowhere).now ≡ get_or choices i [] = sym (value_at lent i nowhere [] (omega arith)) in
    let have : Have versions start end (get_or choices i []) count = rw (← choice) c.how_many-count.ensures in
    let inside : i < length choices = omega (arith, length-values_of lent) in
    elim c.if-count-greatest.branch [
      | then-count-greatest w ↦ elim c.if-count-greatest-2.branch [
        | then-count-greatest-2+in_ok-push v ↦
            let none : c.if-count-greatest.most.items ≡ [] = ap (λ m. m.items) w.most-is ∙ w.clear.ensures.items in
            let now : values_of c.if-count-greatest-2.most.items ≡ get_or choices i [] ∷ [] =
            ap (λ m. values_of m.items) v.most-is ∙ ap values_of (v.in_ok-push.ensures.items ∙ ap (λ m. m ++ get_or lent i nowhere ∷ []) none)
            ∙ ap (λ p. p ∷ []) choice in
            rw now (rw w.greatest-is
            (most_more versions start end choices are i (values_of most) greatest count inside have c.loop-choice.invariant w.if-count-greatest.true))
        | else-count-greatest-2 v ↦ absurd (v.if-count-greatest-2.false (sym w.greatest-is))
      ]
      | else-count-greatest w ↦
          let same : values_of c.if-count-greatest.most.items ≡ values_of most = ap (λ m. values_of m.items) w.most-is in
          elim c.if-count-greatest-2.branch [
            | then-count-greatest-2+in_ok-push v ↦
                let now : values_of c.if-count-greatest-2.most.items ≡ values_of most ++ get_or choices i [] ∷ [] =
                ap (λ m. values_of m.items) v.most-is ∙ ap values_of v.in_ok-push.ensures.items
                ∙ map_push (λ (p : Bor (List ℕ)). p.now) c.if-count-greatest.most.items (get_or lent i nowhere)
                ∙ ap (λ m. m ++ (get_or lent i nowhere).now ∷ []) same ∙ ap (λ p. values_of most ++ p ∷ []) choice in
                rw now (rw w.greatest-is (most_too versions start end choices are i (values_of most) greatest count inside have c.loop-choice.invariant
                (v.if-count-greatest-2.true ∙ w.greatest-is)))
            | else-count-greatest-2 v ↦
                let now : values_of c.if-count-greatest-2.most.items ≡ values_of most = ap (λ m. values_of m.items) v.most-is ∙ same in
                rw now (rw w.greatest-is (most_fewer versions start end choices are i (values_of most) greatest count inside have c.loop-choice.invariant
                (omega (arith, w.if-count-greatest.false, v.if-count-greatest-2.false, w.greatest-is))))
          ]
    ]

pub returns : goal.returns
returns c = λ distance.
    let versions : List (List ℕ) = values_of c.args.versions.now in
    let lent : List (Bor (List ℕ)) = c.as_slice-choice-items.result.now in
    let are : AreChoices versions c.args.start c.args.end (values_of lent) =
    subst (λ items. AreChoices versions c.args.start c.args.end (values_of items)) (sym c.as_slice-choice-items.ensures.value) c.in_ok-choices.ensures in
    most_all versions c.args.start c.args.end (values_of lent) are c.loop-choice.choice-index (values_of c.loop-choice.most.items) c.loop-choice.greatest distance
    (omega (arith, length-values_of lent)) c.loop-choice.invariant
