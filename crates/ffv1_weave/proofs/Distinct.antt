-- The different versions, as the code has them.
use Rattle.ffv1_weave.proofs.Common.{◌≡◌, ◌<◌, ℕ, List, [], Bor, length, get_or, arith, ap, sym, ◌∙◌, subst, All, Contains, Contains-get_or, HasSameMembers, AreChoices, values_of}
use Rattle.ffv1_weave.proofs.References.{nowhere, value_at, value_there, length-values_of, each_value}
use Rattle.ffv1_weave.proofs.ChoiceSteps.{choices_are_versions, choices_some}
use Rattle.ffv1_weave.proofs.WeaveLaws.{same_back}

-- as they are lent
pub lent_same : (versions distinct lent : List (Bor (List ℕ))) → lent ≡ distinct → HasSameMembers (values_of versions) (values_of distinct)
    → HasSameMembers (values_of lent) (values_of versions)
lent_same versions distinct lent is same =
    subst (λ items. HasSameMembers (values_of items) (values_of versions)) (sym is) (same_back (values_of versions) (values_of distinct) same)

module _ (versions distinct : List (Bor (List ℕ))) (some : 0 < length versions)
    (lengths : All (λ version. length version.now ≡ length (get_or (values_of versions) 0 [])) versions)
    (choices : AreChoices (values_of versions) 0 (length (get_or versions 0 nowhere).now) (values_of distinct)) where
  long : (version : List ℕ) → Contains (values_of versions) version → length version ≡ length (get_or (values_of versions) 0 [])
  long version there = each_value versions (λ version. length version ≡ length (get_or (values_of versions) 0 [])) lengths version there

  pub distinct_same : HasSameMembers (values_of versions) (values_of distinct)
  distinct_same =
      choices_are_versions (values_of versions) (values_of distinct) (length (get_or versions 0 nowhere).now)
      (λ version there. long version there ∙ ap length (value_at versions 0 nowhere [] some)) choices

  pub distinct_some : 0 < length distinct
  distinct_some = grind (arith, choices_some, length-values_of)

  pub distinct_lengths : All (λ version. length version.now ≡ length (get_or (values_of distinct) 0 [])) distinct
  distinct_lengths k d lt =
      long _ ((distinct_same _).1 (value_there distinct k d lt))
      ∙ sym (long _ ((distinct_same _).1 (Contains-get_or (values_of distinct) 0 [] (omega (arith, length-values_of distinct)))))
