-- What can be put together of the versions of a slice, of an element, or of a record.
use Rattle.std.specs.Prelude.{ℕ, ◌<◌, ◌≤◌, ◌≡◌, List, Contains, length, slice_index, slice_index_or, slice_range}
use Rattle.ffv1_weave.specs.Regions.{AgreeAt}
use Rattle.ffv1_weave.specs.Numbers.{AreNumbered, AreMoreThan}
use Rattle.ffv1_weave.specs.Splits.{IsPartBy, IsChoiceBy, splits}
use Rattle.ffv1_weave.specs.Checks.{PassesBy}
use Rattle.ffv1_weave.specs.declared.check.Check.{Check}
use Rattle.ffv1_weave.specs.declared.splits.Split.{Split}
use Rattle.ffv1_weave.specs.declared.splits.Split.TheVariants.{Pairs, Regions}
use Rattle.ffv1_weave.specs.declared.weaving.TheConstants.{MOST_COMBINATIONS}

-- A combination by a split: where all versions agree it is as they are, and in each part it is as some version is in all of the part, or as
-- most versions are.
pub record IsCombinationBy (split : Split) (versions : List (List ℕ)) (bytes : List ℕ) : Type 0 where
  pub same_length : (version : List ℕ) → Contains versions version → length bytes ≡ length version
  pub agrees : (i : ℕ) → AgreeAt versions i → (version : List ℕ) → Contains versions version → slice_index bytes i ≡ slice_index version i
  pub parts : (start end : ℕ) → IsPartBy split versions start end → IsChoiceBy split versions start end (slice_range bytes start end)

-- A combination of regions. It is one by each finer split too (`RegionsAreCoarsest`).
abbrev pub IsCombination : List (List ℕ) → List ℕ → Type 0
IsCombination versions bytes = IsCombinationBy Regions versions bytes

-- ---- how many there are

-- By a split the versions have so many combinations, few enough to be tried: at most 4096.
pub record HasFew (versions : List (List ℕ)) (split : Split) (count : ℕ) : Type 0 where
  pub numbered : AreNumbered (IsCombinationBy split versions) count
  pub few : count ≤ MOST_COMBINATIONS

-- So many where each byte is taken from some version on its own: by the finest split, at distance 0.
abbrev pub HasFewByByte : List (List ℕ) → ℕ → Type 0
HasFewByByte versions count = HasFew versions (Pairs 0) count

-- By a split they have more than 4096.
abbrev pub HasMany : List (List ℕ) → Split → Type 0
HasMany versions split = AreMoreThan (IsCombinationBy split versions) MOST_COMBINATIONS

-- The combinations by a split are tried, and are so many: by each finer split there are too many.
pub record IsTriedBy (versions : List (List ℕ)) (split : Split) (count : ℕ) : Type 0 where
  pub place : ℕ
  pub there : place < length splits
  pub is : slice_index_or splits place Regions ≡ split
  pub finer : (k : ℕ) → k < place → HasMany versions (slice_index_or splits k Regions)
  pub few : HasFew versions split count

-- A combination by the split that is tried, whichever that is. Where by each split there are too many combinations, none is tried, and
-- nothing is asked.
abbrev pub IsAmongTried : List (List ℕ) → List ℕ → Type 0
IsAmongTried versions bytes = (split : Split) (count : ℕ) → IsTriedBy versions split count → IsCombinationBy split versions bytes

-- A combination that is tried and passes: of a slice's versions a slice with its parity, of an element's an element with its CRC-32, of a
-- record's a record.
pub record IsValid (check : Check) (versions : List (List ℕ)) (bytes : List ℕ) : Type 0 where
  pub split : Split
  pub count : ℕ
  pub tried : IsTriedBy versions split count
  pub combination : IsCombinationBy split versions bytes
  pub passes : PassesBy check bytes
