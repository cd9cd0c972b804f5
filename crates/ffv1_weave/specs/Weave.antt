-- What is woven of the versions of a slice, of an element, or of a record.
use Rattle.std.specs.Prelude.{ℕ, List, Contains}
use Rattle.ffv1_slice.specs.Members.{IsOnly, IsOfTwo, IsOfNone}
use Rattle.ffv1_weave.specs.Splits.{splits}
use Rattle.ffv1_weave.specs.Combinations.{HasMany, IsTriedBy, IsValid}
use Rattle.ffv1_weave.specs.declared.check.Check.{Check}
use Rattle.ffv1_weave.specs.declared.splits.Split.{Split}
use Rattle.ffv1_weave.specs.declared.weaving.WeaveResult.{WeaveResult}
use Rattle.ffv1_weave.specs.declared.weaving.WeaveResult.TheVariants as outcome

pub data Weave : Type 0 where
  woven : (bytes : List ℕ) (count : ℕ) → Weave
  disputed : Weave
  missing : (count : ℕ) → Weave
  too_many : Weave

-- By some split the versions have so many combinations, and these are tried: at most 4096.
pub record AreFew (versions : List (List ℕ)) (count : ℕ) : Type 0 where
  pub split : Split
  pub tried : IsTriedBy versions split count

-- By each split the versions have more than 4096 combinations.
pub record AreMany (versions : List (List ℕ)) : Type 0 where
  pub each : (split : Split) → Contains splits split → HasMany versions split

-- Woven where one combination alone is valid, disputed where two are that differ, missing where none is; too many where they are not tried.
abbrev pub IsWeaveOf : Check → List (List ℕ) → Weave → Type 0
IsWeaveOf check versions (woven bytes count) = IsOnly (IsValid check versions) bytes × AreFew versions count
IsWeaveOf check versions disputed = IsOfTwo (IsValid check versions) × ((count : ℕ) × AreFew versions count)
IsWeaveOf check versions (missing count) = IsOfNone (IsValid check versions) × AreFew versions count
IsWeaveOf check versions too_many = AreMany versions

-- what the code returns
abbrev pub weave_tally : WeaveResult → Weave
weave_tally (outcome.Woven bytes count) = woven bytes.items count
weave_tally outcome.Disputed = disputed
weave_tally (outcome.Missing count) = missing count
weave_tally outcome.TooMany = too_many
