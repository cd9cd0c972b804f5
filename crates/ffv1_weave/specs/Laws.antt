-- Laws of the weave.
use Rattle.std.specs.Prelude.{ℕ, ◌<◌, ◌≡◌, List, Contains, length, slice_index, slice_range}
use Rattle.ffv1_slice.specs.Members.{HasSameMembers}
use Rattle.ffv1_weave.specs.Regions.{HaveLength, AgreeAt}
use Rattle.ffv1_weave.specs.Checks.{PassesBy}
use Rattle.ffv1_weave.specs.Splits.{IsPartBy, splits}
use Rattle.ffv1_weave.specs.Combinations.{IsCombinationBy, IsCombination, IsTriedBy, IsAmongTried, HasFewByByte}
use Rattle.ffv1_weave.specs.Weave.{Weave, IsWeaveOf}
use Rattle.ffv1_weave.specs.Weave.Weave.{woven, disputed, missing, too_many}
use Rattle.ffv1_weave.specs.declared.check.Check.{Check}
use Rattle.ffv1_weave.specs.declared.splits.Split.{Split}
use Rattle.ffv1_weave.specs.declared.splits.Split.TheVariants.{Regions}

-- The same versions have one weave.
abbrev pub SameVersionsWeave : Type 0
SameVersionsWeave =
    (check : Check) (versions others : List (List ℕ)) (one other : Weave) → HasSameMembers versions others → IsWeaveOf check versions one
    → IsWeaveOf check others other → one ≡ other

-- ---- an original

-- Nothing but the original is woven, and it is not missed.
abbrev pub KeepsOriginal : List ℕ → Weave → Type 0
KeepsOriginal original (woven bytes count) = bytes ≡ original
KeepsOriginal original disputed = Unit {0}
KeepsOriginal original (missing count) = ⊥
KeepsOriginal original too_many = Unit {0}

-- Where the original passes, as a slice, an element or a record, and is among the combinations that are tried, it is what is woven, if
-- anything is.
abbrev pub OriginalIsWoven : Type 0
OriginalIsWoven =
    (check : Check) (original : List ℕ) (versions : List (List ℕ)) (weave : Weave) → PassesBy check original → IsAmongTried versions original
    → IsWeaveOf check versions weave → KeepsOriginal original weave

-- A combination of regions is a combination by each split that is tried.
abbrev pub RegionsAreCoarsest : Type 0
RegionsAreCoarsest =
    (split : Split) (versions : List (List ℕ)) (bytes : List ℕ) → Contains splits split → IsCombination versions bytes
    → IsCombinationBy split versions bytes

-- By a split the versions cover the original: all are as long, where all agree they are right, and each part is intact in some version.
pub record IsCoveredBy (split : Split) (original : List ℕ) (versions : List (List ℕ)) : Type 0 where
  pub one_length : HaveLength versions (length original)
  pub right : (i : ℕ) → AgreeAt versions i → (version : List ℕ) → Contains versions version → slice_index version i ≡ slice_index original i
  pub intact : (start end : ℕ) → IsPartBy split versions start end
      → (version : List ℕ) × Contains versions version × (slice_range version start end ≡ slice_range original start end)

-- So they do by regions.
abbrev pub IsCoveredByRegions : List ℕ → List (List ℕ) → Type 0
IsCoveredByRegions original versions = IsCoveredBy Regions original versions

-- So they do by the split that is tried, whichever that is.
abbrev pub IsCovered : List ℕ → List (List ℕ) → Type 0
IsCovered original versions = (split : Split) (count : ℕ) → IsTriedBy versions split count → IsCoveredBy split original versions

-- Then the original is a combination by that split.
abbrev pub CoveredIsCombination : Type 0
CoveredIsCombination =
    (split : Split) (original : List ℕ) (versions : List (List ℕ)) → Contains splits split → IsCoveredBy split original versions
    → IsCombinationBy split versions original

-- All versions are as long as the original, and each byte of it is intact in some version.
pub record HasEachByte (original : List ℕ) (versions : List (List ℕ)) : Type 0 where
  pub one_length : HaveLength versions (length original)
  pub intact : (i : ℕ) → i < length original → (version : List ℕ) × Contains versions version × (slice_index version i ≡ slice_index original i)

-- When bytes are among the combinations that are tried: where they are one by the split that is tried, where they are one of regions, where the
-- versions cover them by the split that is tried, and where each byte is intact in some version, and there are at most 4096
-- combinations by the finest split, at distance 0.
pub record AreAmongTried : Type 0 where
  pub by_split : (versions : List (List ℕ)) (split : Split) (count : ℕ) (bytes : List ℕ) → IsTriedBy versions split count
      → IsCombinationBy split versions bytes → IsAmongTried versions bytes
  pub regions : (versions : List (List ℕ)) (bytes : List ℕ) → IsCombination versions bytes → IsAmongTried versions bytes
  pub covered : (original : List ℕ) (versions : List (List ℕ)) → IsCovered original versions → IsAmongTried versions original
  pub each_byte : (original : List ℕ) (versions : List (List ℕ)) (count : ℕ) → HasEachByte original versions → HasFewByByte versions count
      → IsAmongTried versions original

-- A version is a combination itself.
abbrev pub VersionIsCombination : Type 0
VersionIsCombination =
    (versions : List (List ℕ)) (version : List ℕ) → HaveLength versions (length version) → Contains versions version → IsCombination versions version
