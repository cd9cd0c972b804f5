-- Laws of what becomes of a stretch.
use Rattle.std.specs.Prelude.{ℕ, ◌<◌, ◌≤◌, ◌≡◌, ◌⊎◌, true, List, All, Contains, length}
use Rattle.ffv1_bits.specs.Parity.{AreBytes, DifferWithin32}
use Rattle.ebml.specs.CrcElement.{PassesCrc32, DivideWithin32}
use Rattle.flac_frame.specs.Frame.{PassesFlac, DifferWithin16}
use Rattle.ffv1_slice.specs.Chain.{IsLinkOf}
use Rattle.ffv1_slice.specs.Members.{HasSameMembers, IsOnly, IsOfTwo}
use Rattle.ffv1_weave.specs.Checks.{PassesBy, CanWeave}
use Rattle.ffv1_weave.specs.Laws.{IsCovered, IsCoveredByRegions, HasEachByte}
use Rattle.ffv1_weave.specs.Combinations.{IsCombination, IsAmongTried, HasFewByByte, IsValid}
use Rattle.ffv1_weave.specs.Weave.{AreMany}
use Rattle.ffv1_weave.specs.declared.check.Check.{Check}
use Rattle.ffv1_weave.specs.declared.check.Check.TheVariants as checks
use Rattle.ffv1_weave.specs.declared.check.Check.TheVariants.{Element}
use Rattle.ffv1_splice.specs.Originals.{AreCopiesOf, AreConsistentFromBelow, AreWeavable, AreNearCopies, IsAmong}
use Rattle.ffv1_splice.specs.Whole.{IsWholeFrame}
use Rattle.ffv1_mend.specs.Improved.{IsWithin, IsRight, given_patches, improved}
use Rattle.ffv1_mend.specs.Mended.{MendedValue, IsCheckedMend, IsElementMend, IsFrameMend, IsMendOf, is_good}
use Rattle.ffv1_mend.specs.declared.kind.Kind.{Kind}
use Rattle.ffv1_mend.specs.declared.kind.Kind.TheVariants.{Frame, Crc32, Record, Flac, Plain}
use Rattle.ffv1_mend.specs.declared.part.Part.{Part}
use Rattle.ffv1_mend.specs.declared.state.State.{State}
use Rattle.ffv1_mend.specs.declared.state.State.TheVariants.{Whole, Disputed, Missing, Alone, Agreed}

-- ---- the same versions

-- there is one version, or all are equal
abbrev pub IsUnanimous : State → Type 0
IsUnanimous Alone = Unit {0}
IsUnanimous Agreed = Unit {0}
IsUnanimous _ = ⊥

-- The same parts, and the same state, but that what is alone may be agreed; and the same bytes where the stretch is good or alone, or a
-- frame.
pub record IsSameMend (kind : Kind) (one other : MendedValue) : Type 0 where
  pub state : (one.state ≡ other.state) ⊎ (IsUnanimous one.state × IsUnanimous other.state)
  pub parts : one.parts ≡ other.parts
  pub bytes : (is_good one.state ≡ true) ⊎ (one.state ≡ Alone) ⊎ (kind ≡ Frame) → one.bytes ≡ other.bytes

-- However the same versions are ordered or repeated, and whichever is taken where nothing vouches, they mend alike; and where there are as
-- many and the same is taken, all is the same.
pub record SameVersionsMend : Type 0 where
  pub alike : (kind : Kind) (versions others : List (List ℕ)) (from other_from : List ℕ) (parts : List Part) (one other : MendedValue)
      → HasSameMembers versions others → IsMendOf kind versions from parts one → IsMendOf kind others other_from parts other → IsSameMend kind one other
  pub all : (kind : Kind) (versions others : List (List ℕ)) (from : List ℕ) (parts : List Part) (one other : MendedValue)
      → HasSameMembers versions others → length versions ≡ length others → IsMendOf kind versions from parts one → IsMendOf kind others from parts other
      → one ≡ other

-- ---- what vouches

-- There are two versions at least, and each is these bytes.
pub record AreAlike (versions : List (List ℕ)) (bytes : List ℕ) : Type 0 where
  pub count : 2 ≤ length versions
  pub each : IsOnly (Contains versions) bytes

-- An element passes its CRC-32, a Configuration Record its parity, a frame of FLAC its CRC-8 and its CRC-16. A frame of FFV1 is whole, and each
-- of its slices has content and passes its parity. Bytes without a checksum are what two versions at least have alike, and no version has
-- others.
abbrev pub IsVouched : Kind → List (List ℕ) → List ℕ → Type 0
IsVouched Frame versions bytes = IsWholeFrame bytes
IsVouched Crc32 versions bytes = PassesCrc32 bytes
IsVouched Record versions bytes = PassesBy checks.Record bytes
IsVouched Flac versions bytes = PassesFlac bytes
IsVouched Plain versions bytes = AreAlike versions bytes

-- So it is of the bytes of a stretch that is good.
abbrev pub GoodIsVouched : Type 0
GoodIsVouched =
    (kind : Kind) (versions : List (List ℕ)) (from : List ℕ) (parts : List Part) (mended : MendedValue) → IsMendOf kind versions from parts mended
    → is_good mended.state ≡ true → IsVouched kind versions mended.bytes

-- ---- an original

-- An original that passes its check: no version that passes differs from it, and where versions are woven by the check, it is among the
-- combinations that are tried of those with which that is done.
pub record IsOriginalBy (check : Check) (original : List ℕ) (versions tried : List (List ℕ)) : Type 0 where
  pub passes : PassesBy check original
  pub alone : (version : List ℕ) → Contains versions version → PassesBy check version → version ≡ original
  pub among : CanWeave check → IsAmongTried tried original

-- the original of an element: its improved versions are woven
abbrev pub IsOriginalOf : List ℕ → List (List ℕ) → List Part → MendedValue → Type 0
IsOriginalOf original versions parts mended = IsOriginalBy Element original versions (improved versions parts mended.parts)

-- Nothing but the original is whole or woven. It is never disputed, and missing only where no versions are woven by the check, or there are too
-- many combinations, or another one passes too.
abbrev pub MendKeepsOriginal : Check → List ℕ → List (List ℕ) → List ℕ → State → Type 0
MendKeepsOriginal check original tried bytes Missing = CanWeave check → AreMany tried ⊎ IsOfTwo (IsValid check tried)
MendKeepsOriginal check original tried bytes Disputed = ⊥
MendKeepsOriginal check original tried bytes _ = bytes ≡ original

-- What is asked of each kind: of an element, a record and a frame of FLAC the above; that the versions of a frame of FFV1 are weavable copies; that
-- a version has the bytes.
abbrev pub HasOriginal : Kind → List ℕ → List (List ℕ) → List Part → MendedValue → Type 0
HasOriginal Frame original versions parts mended = AreCopiesOf original versions × AreWeavable original versions
HasOriginal Crc32 original versions parts mended = IsOriginalOf original versions parts mended
HasOriginal Record original versions parts mended = IsOriginalBy checks.Record original versions versions
HasOriginal Flac original versions parts mended = IsOriginalBy checks.Flac original versions versions
HasOriginal Plain original versions parts mended = Contains versions original

-- Then a stretch that is good or alone is the original, and an element, a record and a frame of FLAC is kept. The original of an element is
-- among the combinations that are tried where the improved versions cover it by the split that is tried. Where what the parts give is right,
-- voted and repaired places too: it is a combination of regions of the improved versions, if each region in which the versions as they were
-- given differ is intact in one of these, and where all agree they are right; and it is among those that are tried, if each byte is intact in a
-- version as it was given, and at distance 0 there are at most 4096 combinations of the versions as they were given, or of the improved ones.
pub record OriginalIsMended : Type 0 where
  pub original : (kind : Kind) (original : List ℕ) (versions : List (List ℕ)) (from : List ℕ) (parts : List Part) (mended : MendedValue)
      → HasOriginal kind original versions parts mended → IsMendOf kind versions from parts mended
      → (is_good mended.state ≡ true) ⊎ (mended.state ≡ Alone) → mended.bytes ≡ original
  pub kept : (original : List ℕ) (versions : List (List ℕ)) (from : List ℕ) (parts : List Part) (mended : MendedValue)
      → IsOriginalOf original versions parts mended → IsElementMend versions from parts mended
      → MendKeepsOriginal Element original (improved versions parts mended.parts) mended.bytes mended.state
  pub kept_by : (check : Check) (original : List ℕ) (versions : List (List ℕ)) (from : List ℕ) (mended : MendedValue)
      → IsOriginalBy check original versions versions → IsCheckedMend check versions from mended
      → MendKeepsOriginal check original versions mended.bytes mended.state
  pub among : (original : List ℕ) (versions : List (List ℕ)) (parts : List Part) (mended : MendedValue)
      → IsCovered original (improved versions parts mended.parts) → IsAmongTried (improved versions parts mended.parts) original
  pub covered : (original : List ℕ) (versions : List (List ℕ)) (from : List ℕ) (parts : List Part) (mended : MendedValue)
      → IsElementMend versions from parts mended → All (IsWithin (length original)) parts → 0 < length versions → IsCoveredByRegions original versions
      → All (IsRight original) (given_patches parts mended.parts) → IsCombination (improved versions parts mended.parts) original
  pub each_byte : (original : List ℕ) (versions : List (List ℕ)) (from : List ℕ) (parts : List Part) (mended : MendedValue) (count : ℕ)
      → IsElementMend versions from parts mended → All (IsWithin (length original)) parts → 0 < length versions → HasEachByte original versions
      → All (IsRight original) (given_patches parts mended.parts) → HasFewByByte versions count ⊎ HasFewByByte (improved versions parts mended.parts) count
      → IsAmongTried (improved versions parts mended.parts) original

-- ---- versions that are near an original

-- Bytes differ only within so few consecutive bits that the check sees each such damage: within 32, and in the order in which the CRC-32
-- divides them, or of a frame of FLAC within 16.
abbrev pub DifferNear : Check → (original version : List ℕ) → ℕ → Type 0
DifferNear checks.Slice original version at = DifferWithin32 original version at
DifferNear checks.Element original version at = DivideWithin32 original version at
DifferNear checks.Record original version at = DifferWithin32 original version at
DifferNear checks.Flac original version at = DifferWithin16 original version at

-- bytes that differ from the original only so, if they do
abbrev pub IsNearVersion : Check → List ℕ → List ℕ → Type 0
IsNearVersion check original version = (version ≡ original) ⊎ (AreBytes version × ((at : ℕ) × DifferNear check original version at))

-- the original passes its check, and each version is near it
pub record AreNearVersions (check : Check) (original : List ℕ) (versions : List (List ℕ)) : Type 0 where
  pub are_bytes : AreBytes original
  pub passes : PassesBy check original
  pub near : (version : List ℕ) → Contains versions version → IsNearVersion check original version

-- Then no version that passes differs from the original: what is whole is the original, and nothing is disputed. Where the original is among the
-- combinations that are tried, it is kept: nothing else is woven, and it is missing only where there are too many combinations, or another
-- one passes too. Where it is not among them nothing is claimed of what is woven: a combination can have damage of several versions, which is
-- longer than the check sees, so it can pass. A frame of FFV1 that is good is the original where each link of each version is near the
-- original's, and is among the combinations that are tried, and each slice that passes and begins where a link of the original begins is
-- that link.
pub record NearVersionsMend : Type 0 where
  pub alone : (check : Check) (original : List ℕ) (versions : List (List ℕ)) → AreNearVersions check original versions → (version : List ℕ)
      → Contains versions version → PassesBy check version → version ≡ original
  pub whole : (original : List ℕ) (versions : List (List ℕ)) (from : List ℕ) (parts : List Part) (mended : MendedValue)
      → AreNearVersions Element original versions → IsElementMend versions from parts mended → mended.state ≡ Whole → mended.bytes ≡ original
  pub undisputed : (original : List ℕ) (versions : List (List ℕ)) (from : List ℕ) (parts : List Part) (mended : MendedValue)
      → AreNearVersions Element original versions → IsElementMend versions from parts mended → mended.state ≡ Disputed → ⊥
  pub whole_by : (check : Check) (original : List ℕ) (versions : List (List ℕ)) (from : List ℕ) (mended : MendedValue)
      → AreNearVersions check original versions → IsCheckedMend check versions from mended → mended.state ≡ Whole → mended.bytes ≡ original
  pub undisputed_by : (check : Check) (original : List ℕ) (versions : List (List ℕ)) (from : List ℕ) (mended : MendedValue)
      → AreNearVersions check original versions → IsCheckedMend check versions from mended → mended.state ≡ Disputed → ⊥
  pub kept : (original : List ℕ) (versions : List (List ℕ)) (from : List ℕ) (parts : List Part) (mended : MendedValue)
      → AreNearVersions Element original versions → IsAmongTried (improved versions parts mended.parts) original
      → IsElementMend versions from parts mended
      → MendKeepsOriginal Element original (improved versions parts mended.parts) mended.bytes mended.state
  pub kept_by : (check : Check) (original : List ℕ) (versions : List (List ℕ)) (from : List ℕ) (mended : MendedValue)
      → AreNearVersions check original versions → (CanWeave check → IsAmongTried versions original) → IsCheckedMend check versions from mended
      → MendKeepsOriginal check original versions mended.bytes mended.state
  pub frame : (original : List ℕ) (versions : List (List ℕ)) (mended : MendedValue) → AreNearCopies original versions
      → AreConsistentFromBelow original versions → ((start end : ℕ) → IsLinkOf original start end → IsAmong original versions start end) → IsFrameMend versions mended
      → is_good mended.state ≡ true → mended.bytes ≡ original
