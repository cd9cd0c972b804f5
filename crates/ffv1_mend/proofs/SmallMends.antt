-- What the small definitions say of a good stretch is so, and is the original.
use Rattle.std.proofs.Common.{◌≡◌, ℕ, true, List, sym, ◌∙◌, subst, inl, inr}
use Rattle.std.specs.Prelude.{◌⊎◌, Contains}
use Rattle.ffv1_slice.specs.Members.{IsOnly}
use Rattle.ffv1_weave.specs.Checks.{PassesBy, CanWeave}
use Rattle.ffv1_weave.specs.Combinations.{IsValid}
use Rattle.ffv1_weave.specs.declared.check.Check.{Check}
use Rattle.ffv1_weave.specs.declared.check.Check.TheVariants as checks
use Rattle.ffv1_splice.specs.Small.{IsTried, IsSplicedFrom}
use Rattle.ffv1_splice.proofs.SmallSplices.{among_tried, spliced_is_the_original}
use Rattle.ffv1_splice.proofs.SmallPlaces.{given_back_is_spliced}
use Rattle.ffv1_splice.proofs.SmallPremises.{weavable_is_within_reach}
use Rattle.ffv1_mend.specs.Improved.{improved, fallback}
use Rattle.ffv1_mend.specs.Mended.{StandsBy, is_good}
use Rattle.ffv1_mend.specs.Laws.{IsOriginalBy}
use Rattle.ffv1_mend.specs.Passing.{IsPassing}
use Rattle.ffv1_mend.specs.Small.{PassesAlone, GoodIsTheOriginal}
use Rattle.ffv1_mend.specs.SmallNotions.{GoodIsOfMend, OriginalIsKnownAgain}
use Rattle.ffv1_mend.specs.declared.kind.Kind.TheVariants.{Frame, Crc32, Record, Flac, Plain}
use Rattle.ffv1_mend.specs.declared.state.State.{State}
use Rattle.ffv1_mend.specs.declared.state.State.TheVariants.{Whole, Disputed, Woven, Missing, Alone, Agreed, Open}
use Rattle.ffv1_mend.proofs.Vouched.{good_given, only_version}

-- ---- the original

-- a version that passes is the original
only_original : (check : Check) (original bytes : List ℕ) (versions better : List (List ℕ)) → IsOriginalBy check original versions better
    → IsOnly (IsPassing check versions) bytes → bytes ≡ original
only_original check original bytes versions better of only = of.alone bytes only.there.there only.there.passes

-- and what alone passes is, where versions are woven by the check
alone_original : (check : Check) → CanWeave check → (original bytes : List ℕ) (versions better : List (List ℕ))
    → IsOriginalBy check original versions better → PassesAlone check versions better bytes → bytes ≡ original
alone_original check weaves original bytes versions better of (inl only) = only_original check original bytes versions better of only
alone_original check weaves original bytes versions better of (inr (none, only)) =
    sym (only.others original (among_tried better original bytes (of.among weaves) only.there.0, of.passes))

pub good_is_the_original : GoodIsTheOriginal
good_is_the_original Frame versions better original bytes known good = spliced_is_the_original versions original bytes known good
good_is_the_original Crc32 versions better original bytes known good = alone_original checks.Element tt original bytes versions better known good
good_is_the_original Record versions better original bytes known good = alone_original checks.Record tt original bytes versions versions known good
good_is_the_original Flac versions better original bytes known good = only_original checks.Flac original bytes versions versions known good
good_is_the_original Plain versions better original bytes known good = sym (good.others original known)

-- ---- what becomes of a stretch

valid_alone : (check : Check) (better : List (List ℕ)) (bytes : List ℕ) → IsOnly (IsValid check better) bytes
    → IsOnly (λ tried. IsTried better tried × PassesBy check tried) bytes
valid_alone check better bytes only = record {
  there = ((only.there.split, only.there.count, only.there.tried, only.there.combination), only.there.passes);
  others = λ other is. only.others other
      (record { split = is.0.0; count = is.0.1; tried = is.0.2; combination = is.0.3; passes = is.1 });
}

good_alone : (check : Check) (versions better : List (List ℕ)) (taken bytes : List ℕ) (state : State) → StandsBy check versions better taken bytes state
    → is_good state ≡ true → PassesAlone check versions better bytes
good_alone check versions better taken bytes Whole stands good = inl stands
good_alone check versions better taken bytes (Woven count) stands good = inr (stands.0, valid_alone check better bytes stands.2.0)
good_alone check versions better taken bytes Missing stands good = absurd (cc)
good_alone check versions better taken bytes Disputed stands good = absurd (cc)
good_alone check versions better taken bytes Alone stands good = absurd stands
good_alone check versions better taken bytes Agreed stands good = absurd stands
good_alone check versions better taken bytes Open stands good = absurd stands

-- sound is not woven
flac_alone : (versions : List (List ℕ)) (taken bytes : List ℕ) (state : State) → StandsBy checks.Flac versions versions taken bytes state → is_good state ≡ true
    → IsOnly (IsPassing checks.Flac versions) bytes
flac_alone versions taken bytes Whole stands good = stands
flac_alone versions taken bytes (Woven count) stands good = absurd stands.1
flac_alone versions taken bytes Missing stands good = absurd (cc)
flac_alone versions taken bytes Disputed stands good = absurd (cc)
flac_alone versions taken bytes Alone stands good = absurd stands
flac_alone versions taken bytes Agreed stands good = absurd stands
flac_alone versions taken bytes Open stands good = absurd stands

pub good_is_of_mend : GoodIsOfMend
good_is_of_mend Frame versions from parts mended h good =
    subst (IsSplicedFrom versions) (sym h.bytes)
    (given_back_is_spliced versions h.splice h.is_splice (good_given h.splice mended.state h.stands good))
good_is_of_mend Crc32 versions from parts mended h good =
    good_alone checks.Element versions (improved versions parts mended.parts) (fallback from parts mended.parts) mended.bytes mended.state h.stands good
good_is_of_mend Record versions from parts mended h good =
    good_alone checks.Record versions versions from mended.bytes mended.state h.stands good
good_is_of_mend Flac versions from parts mended h good = flac_alone versions from mended.bytes mended.state h.stands good
good_is_of_mend Plain versions from parts mended h good = only_version versions from mended.bytes mended.state h.stands (inl good)

-- ---- what is asked

pub original_is_known_again : OriginalIsKnownAgain
original_is_known_again Frame original versions parts mended of bytes = weavable_is_within_reach versions original of.0 of.1 bytes
original_is_known_again Crc32 original versions parts mended of bytes = of
original_is_known_again Record original versions parts mended of bytes = of
original_is_known_again Flac original versions parts mended of bytes = of
original_is_known_again Plain original versions parts mended of bytes = of
