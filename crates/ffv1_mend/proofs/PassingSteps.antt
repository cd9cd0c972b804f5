-- The versions that pass, one more at a time.
use Rattle.std.proofs.Common.{◌≡◌, ℕ, List, [], ◌∷◌, ◌++◌, refl, subst, arith, inl, inr}
use Rattle.std.specs.Prelude.{◌⊎◌}
use Rattle.std.proofs.lemmas.List.Elements.{Contains-append_left, Contains-append_right, Contains-append_cases}
use Rattle.ffv1_splice.specs.Inner.Tally.{Tally, Tallies, TalliesMore}
use Rattle.ffv1_weave.specs.Checks.{PassesBy}
use Rattle.ffv1_weave.specs.declared.check.Check.{Check}
use Rattle.ffv1_weave.proofs.ChoiceSteps.{alone}
use Rattle.ffv1_splice.proofs.TallySteps.{tallies_same, tallies_more}
use Rattle.ffv1_mend.specs.Passing.{IsPassing}

module _ (check : Check) (versions : List (List ℕ)) (version : List ℕ) where
  passing_on : (one : List ℕ) → IsPassing check versions one → IsPassing check (versions ++ version ∷ []) one
  passing_on one h = record { there = Contains-append_left versions (version ∷ []) one h.there; passes = h.passes }

  passing_back : (one : List ℕ) → IsPassing check (versions ++ version ∷ []) one → IsPassing check versions one ⊎ ((one ≡ version) × PassesBy check version)
  passing_back one h =
      elim (Contains-append_cases versions (version ∷ []) one h.there) [
        | inl there ↦ inl (record { there = there; passes = h.passes })
        | inr there ↦ let same : one ≡ version = alone version one there in inr (same, subst (PassesBy check) same h.passes)
      ]

  pub one_failed : (found : Tally (List ℕ)) → (PassesBy check version → ⊥) → Tallies (IsPassing check versions) found
      → Tallies (IsPassing check (versions ++ version ∷ [])) found
  one_failed found fails h =
      tallies_same (IsPassing check versions) (IsPassing check (versions ++ version ∷ [])) found passing_on
      (λ one q. elim (passing_back one q) [ inl p ↦ p | inr new ↦ absurd (fails new.1) ]) h

  pub one_passed : (found after : Tally (List ℕ)) → PassesBy check version → TalliesMore found version after → Tallies (IsPassing check versions) found
      → Tallies (IsPassing check (versions ++ version ∷ [])) after
  one_passed found after passes more h =
      tallies_more (IsPassing check versions) (IsPassing check (versions ++ version ∷ [])) found after version passing_on
      (record { there = Contains-append_right versions (version ∷ []) version (0, omega arith, refl); passes = passes })
      (λ one q. elim (passing_back one q) [ inl p ↦ inl p | inr new ↦ inr new.0 ]) more h
