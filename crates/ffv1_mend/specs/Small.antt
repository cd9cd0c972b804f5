-- What `mend` makes of a stretch that is good: a frame that is spliced from its versions, bytes that alone pass their check, or bytes that all
-- versions are; and when that is the original.
use Rattle.std.specs.Prelude.{ℕ, ◌≡◌, ◌⊎◌, List, Contains}
use Rattle.ffv1_slice.specs.Members.{IsOnly, IsOfNone}
use Rattle.ffv1_weave.specs.Checks.{PassesBy}
use Rattle.ffv1_weave.specs.declared.check.Check.{Check}
use Rattle.ffv1_weave.specs.declared.check.Check.TheVariants as checks
use Rattle.ffv1_splice.specs.Small.{IsTried, IsJoinedOf, IsSplicedFrom, IsUncontradicted, IsWithinReach}
use Rattle.ffv1_mend.specs.Laws.{IsOriginalBy}
use Rattle.ffv1_mend.specs.Passing.{IsPassing}
use Rattle.ffv1_mend.specs.declared.kind.Kind.{Kind}
use Rattle.ffv1_mend.specs.declared.kind.Kind.TheVariants.{Frame, Crc32, Record, Flac, Plain}

-- The bytes are the only version that passes the check. Or none passes, and they alone pass of all that is tried of the better versions.
abbrev pub PassesAlone : Check → (versions better : List (List ℕ)) → List ℕ → Type 0
PassesAlone check versions better bytes =
    IsOnly (IsPassing check versions) bytes
    ⊎ (IsOfNone (IsPassing check versions) × IsOnly (λ tried. IsTried better tried × PassesBy check tried) bytes)

-- What a good stretch of each kind is. The better versions of an element have in them what became of the frames of video and sound that it
-- has; those of a record are its own. A frame of FLAC is not woven. Bytes without a checksum are alike in all versions.
abbrev pub IsGoodOf : Kind → (versions better : List (List ℕ)) → List ℕ → Type 0
IsGoodOf Frame versions better bytes = IsSplicedFrom versions bytes
IsGoodOf Crc32 versions better bytes = PassesAlone checks.Element versions better bytes
IsGoodOf Record versions better bytes = PassesAlone checks.Record versions versions bytes
IsGoodOf Flac versions better bytes = IsOnly (IsPassing checks.Flac versions) bytes
IsGoodOf Plain versions better bytes = IsOnly (Contains versions) bytes

-- What is asked of an original: of a frame what a splice asks; of bytes with a checksum, that they pass, that no version that passes is
-- another, and that they are among what is tried; of other bytes, that some version has them.
abbrev pub IsKnownAgain : Kind → (versions better : List (List ℕ)) → (original : List ℕ) → Type 0
IsKnownAgain Frame versions better original =
    IsJoinedOf (λ start slice. IsUncontradicted versions start slice × IsWithinReach versions start slice) versions original
IsKnownAgain Crc32 versions better original = IsOriginalBy checks.Element original versions better
IsKnownAgain Record versions better original = IsOriginalBy checks.Record original versions versions
IsKnownAgain Flac versions better original = IsOriginalBy checks.Flac original versions versions
IsKnownAgain Plain versions better original = Contains versions original

-- ---- laws

-- A good stretch is the original that is known again.
abbrev pub GoodIsTheOriginal : Type 0
GoodIsTheOriginal =
    (kind : Kind) (versions better : List (List ℕ)) (original bytes : List ℕ) → IsKnownAgain kind versions better original
    → IsGoodOf kind versions better bytes → bytes ≡ original
