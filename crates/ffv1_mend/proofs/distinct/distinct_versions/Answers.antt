use Rattle.std.proofs.Common.{◌≡◌, ℕ, List, [], ◌∷◌, ◌++◌, Bor, take, get_or, arith, ap, sym, ◌∙◌, subst}
use Rattle.std.specs.Prelude.{◌↔◌, IsTrue, Any}
use Rattle.std.proofs.lemmas.List.{map_push}
use Rattle.ffv1_weave.specs.References.{values_of}
use Rattle.ffv1_weave.proofs.References.{next_value, all_values, nowhere}
use Rattle.ffv1_mend.specs.Inner.Distinct.{AreDistinctOf}
use Rattle.ffv1_mend.proofs.Members.{has_member, lacks_member, distinct_same, distinct_more}
use Rattle.ffv1_mend.proofs.distinct.distinct_versions.Goals as goal
use Rattle.ffv1_mend.proofs.distinct.distinct_versions.Goals.{then-not-is_among+in_ok-push, else-not-is_among}

pub loop-version-preserved : goal.loop-version-preserved
loop-version-preserved c =
    let version : List ℕ = (get_or c.args.versions.now c.loop-version.version-index nowhere).now in
    let before : List (List ℕ) = take c.loop-version.version-index (values_of c.args.versions.now) in
    let found : List (Bor (List ℕ)) = c.loop-version.found.items in
    let more = next_value c.args.versions.now c.loop-version.version-index nowhere (omega arith) in
    let asked : IsTrue c.is_among.result ↔ Any (λ (one : Bor (List ℕ)). one.now ≡ version) found =
    subst (λ z. IsTrue c.is_among.result ↔ Any (λ (one : Bor (List ℕ)). one.now ≡ version) z) c.as_slice.ensures.value c.is_among.ensures in
    elim c.if-not-is_among.branch [
      | then-not-is_among+in_ok-push w ↦
          let lacks = lacks_member (λ (one : Bor (List ℕ)). one.now) found version c.is_among.result asked nowhere w.if-not-is_among.true in
          let now : values_of c.if-not-is_among.found.items ≡ values_of found ++ version ∷ [] =
          ap (λ v. values_of v.items) w.found-is ∙ ap values_of w.in_ok-push.ensures.items ∙ map_push (λ (p : Bor (List ℕ)). p.now) found _ in
          subst (λ vs. AreDistinctOf vs (values_of c.if-not-is_among.found.items)) more
          (subst (AreDistinctOf (before ++ version ∷ [])) (sym now) (distinct_more before (values_of found) version c.loop-version.invariant lacks))
      | else-not-is_among w ↦
          let has = has_member (λ (one : Bor (List ℕ)). one.now) found version c.is_among.result asked w.if-not-is_among.false in
          subst (λ vs. AreDistinctOf vs (values_of c.if-not-is_among.found.items)) more
          (subst (λ v. AreDistinctOf (before ++ version ∷ []) (values_of v.items)) (sym w.found-is)
          (distinct_same before (values_of found) version c.loop-version.invariant has))
    ]

pub returns : goal.returns
returns c =
    subst (λ versions. AreDistinctOf versions (values_of c.loop-version.found.items))
    (all_values c.args.versions.now c.loop-version.version-index c.loop-version-test.false) c.loop-version.invariant
