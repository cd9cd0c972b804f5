-- An element that is not whole in all versions.
use Rattle.std.proofs.Common.{◌≡◌, ℕ, ◌<◌, List, Bor, length, refl, sym, ◌∙◌, subst, arith, inl, inr}
use Rattle.std.specs.Prelude.{◌⊎◌, ◌≢◌, AllPairs}
use Rattle.ffv1_slice.specs.Members.{IsOnly}
use Rattle.ffv1_splice.specs.Inner.Tally.{Tallies}
use Rattle.ffv1_weave.specs.declared.check.Check.{Check}
use Rattle.ffv1_weave.specs.declared.check.Check.TheVariants.{Element}
use Rattle.ffv1_weave.specs.References.{values_of}
use Rattle.ffv1_weave.proofs.References.{length-values_of}
use Rattle.ffv1_mend.specs.Improved.{PartValue, ArePartMends}
use Rattle.ffv1_mend.specs.Passing.{IsPassing}
use Rattle.ffv1_mend.specs.Mended.{ElementStands, IsElementMend}
use Rattle.ffv1_mend.specs.Inner.Passing.{passing_counted}
use Rattle.ffv1_mend.specs.declared.part.Part.{Part}
use Rattle.ffv1_mend.specs.declared.passing.Passing.{Passing}
use Rattle.ffv1_mend.specs.declared.passing.Passing.TheVariants as passing
use Rattle.ffv1_mend.specs.declared.state.State.{State}
use Rattle.ffv1_mend.proofs.Members.{not_only_one}

-- where the code found none that passes, or two, none is the only one
pub not_one_passes : (check : Check) (versions : List (List ℕ)) (found : Passing) → Tallies (IsPassing check versions) (passing_counted found)
    → ((version : Bor (List ℕ)) → found ≡ passing.One version → ⊥) → (version : List ℕ) → IsOnly (IsPassing check versions) version → ⊥
not_one_passes check versions passing.None claim apart version only = claim version only.there
not_one_passes check versions (passing.One one) claim apart version only = apart one refl
not_one_passes check versions passing.Two claim apart version only = claim.differ (only.others claim.one claim.one_there ∙ sym (only.others claim.other claim.other_there))

module _ (versions : List (Bor (List ℕ))) (from : List ℕ) (parts : List Part) where
  pub not_whole_in_all : (state : State) (bytes : List ℕ) (mends : List PartValue) → AllPairs (λ one other. one ≢ other) (values_of versions)
      → (1 < length versions) ⊎ ((version : List ℕ) → IsOnly (IsPassing Element (values_of versions)) version → ⊥)
      → ArePartMends (values_of versions) parts mends → ElementStands (values_of versions) from parts mends bytes state
      → IsElementMend (values_of versions) from parts (record { state = state; bytes = bytes; parts = mends })
  not_whole_in_all state bytes mends once reason are stands =
      record {
        mends = inr (
          λ whole. elim reason [
            | inl many ↦ not_only_one (values_of versions) bytes (omega (arith, length-values_of versions)) once whole.1
            | inr none ↦ none bytes (subst (ElementStands (values_of versions) from parts mends bytes) whole.0 stands)
          ],
          are,
        );
        stands = stands;
      }
