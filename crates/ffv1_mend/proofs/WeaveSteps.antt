-- The improved versions, each once, as the code weaves them.
use Rattle.std.proofs.Common.{◌≡◌, ℕ, ◌<◌, List, [], Bor, Vec, Global, length, get_or, refl, sym, ap, ◌∙◌, arith, inl, inr}
use Rattle.std.specs.Prelude.{All, Contains}
use Rattle.std.proofs.lemmas.List.Elements.{Contains-get_or}
use Rattle.ffv1_slice.specs.Members.{HasSameMembers}
use Rattle.ffv1_weave.specs.Weave.{Weave, IsWeaveOf, weave_tally}
use Rattle.ffv1_weave.specs.declared.check.Check.{Check}
use Rattle.ffv1_weave.specs.declared.check.Check.TheVariants.{Element}
use Rattle.ffv1_weave.specs.declared.weaving.WeaveResult.{WeaveResult}
use Rattle.ffv1_weave.specs.declared.weaving.WeaveResult.TheVariants as outcome
use Rattle.ffv1_weave.proofs.WeaveLaws.{weave_as, same_back}
use Rattle.ffv1_weave.specs.References.{values_of}
use Rattle.ffv1_weave.proofs.References.{value_there, each_value, nowhere, length-values_of}
use Rattle.ffv1_weave.proofs.Mapped.{mapped_there, mapped_of}
use Rattle.ffv1_mend.specs.Improved.{PartValue, patched, given_patches, improved}
use Rattle.ffv1_mend.specs.Mended.{IsNotWoven}
use Rattle.ffv1_mend.specs.Inner.Improved.{AreFitting}
use Rattle.ffv1_mend.specs.declared.part.Part.{Part}
use Rattle.ffv1_mend.proofs.Fitting.{length-improved}

module _ (versions lent : List (Bor (List ℕ))) (parts : List Part) (mends : List PartValue)
    (same : HasSameMembers (improved (values_of versions) parts mends) (values_of lent)) where
  pub some_lent : 0 < length versions → 0 < length lent
  some_lent some =
      let one = value_there versions 0 nowhere some in
      let there = (same (patched (get_or versions 0 nowhere).now (given_patches parts mends))).0
      (mapped_there (λ version. patched version (given_patches parts mends)) (values_of versions) (get_or versions 0 nowhere).now one) in
      omega (arith, there.1, length-values_of lent)

  module _ (size : ℕ) (fit : AreFitting size parts mends) (long : All (λ version. length version.now ≡ size) versions) where
    length_of : (bytes : List ℕ) → Contains (values_of lent) bytes → length bytes ≡ size
    length_of bytes there =
        let of = mapped_of (λ version. patched version (given_patches parts mends)) (values_of versions) bytes ((same bytes).1 there) in
        ap length of.2 ∙ length-improved size parts mends of.0 fit (each_value versions (λ version. length version ≡ size) long of.0 of.1)

    pub lent_lengths : All (λ version. length version.now ≡ length (get_or (values_of lent) 0 [])) lent
    lent_lengths k d lt =
        length_of (get_or lent k d).now (value_there lent k d lt)
        ∙ sym (length_of (get_or (values_of lent) 0 []) (Contains-get_or (values_of lent) 0 [] (omega (arith, length-values_of lent))))

  pub weave_lent : (weave : Weave) → IsWeaveOf Element (values_of lent) weave → IsWeaveOf Element (improved (values_of versions) parts mends) weave
  weave_lent weave h =
      weave_as Element (values_of lent) (improved (values_of versions) parts mends)
      (same_back (improved (values_of versions) parts mends) (values_of lent) same) weave h

-- what was woven where nothing is
pub not_woven : (check : Check) (versions : List (List ℕ)) (made : WeaveResult) → IsWeaveOf check versions (weave_tally made)
    → ((bytes : Vec ℕ Global) (count : ℕ) → made ≡ outcome.Woven bytes count → ⊥) → IsNotWoven check versions
not_woven check versions (outcome.Woven bytes count) h apart = absurd (apart bytes count refl)
not_woven check versions outcome.Disputed h apart = inl h
not_woven check versions (outcome.Missing count) h apart = inr (inl (count, h))
not_woven check versions outcome.TooMany h apart = inr (inr h)
