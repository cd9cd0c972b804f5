-- What becomes of a stretch.
use Rattle.std.specs.Prelude.{ℕ, ◌^◌, ◌*◌, ◌-◌, ◌<◌, ◌≡◌, ◌⊎◌, Bool, true, false, List, [], ◌∷◌, All, Contains, length, map, min}
use Rattle.ffv1_slice.specs.Members.{IsOnly, IsOfTwo, IsOfNone}
use Rattle.ffv1_weave.specs.Checks.{CanWeave}
use Rattle.ffv1_weave.specs.Weave.{IsWeaveOf}
use Rattle.ffv1_weave.specs.Weave.Weave.{woven, disputed, missing, too_many}
use Rattle.ffv1_weave.specs.declared.check.Check.{Check}
use Rattle.ffv1_weave.specs.declared.check.Check.TheVariants as checks
use Rattle.ffv1_weave.specs.declared.check.Check.TheVariants.{Element}
use Rattle.ffv1_splice.specs.Splice.{SplicedValue, IsSpliceOf, IsGivenBack}
use Rattle.ffv1_splice.specs.declared.place.Standing.{Standing}
use Rattle.ffv1_splice.specs.declared.place.Standing.TheVariants as standing
use Rattle.ffv1_mend.specs.Passing.{IsPassing}
use Rattle.ffv1_mend.specs.Improved.{PartValue, ArePartMends, improved, fallback}
use Rattle.ffv1_mend.specs.Improved.PartValue.{spliced}
use Rattle.ffv1_mend.specs.declared.kind.Kind.{Kind}
use Rattle.ffv1_mend.specs.declared.kind.Kind.TheVariants.{Frame, Crc32, Record, Flac, Plain}
use Rattle.ffv1_mend.specs.declared.part.Part.{Part}
use Rattle.ffv1_mend.specs.declared.state.State.{State}
use Rattle.ffv1_mend.specs.declared.state.State.TheVariants.{Whole, Disputed, Woven, Missing, Alone, Agreed, Open}

-- what becomes of a stretch: its state, its bytes, and of a frame its splice, of an element what becomes of each part
pub record MendedValue : Type 0 where
  pub state : State
  pub bytes : List ℕ
  pub parts : List PartValue

-- a checksum vouches for the bytes, or several versions that are all equal
abbrev pub is_good : State → Bool
is_good Whole = true
is_good (Woven count) = true
is_good Agreed = true
is_good _ = false

-- ---- bytes with a checksum of their own

-- none is woven: two combinations that differ pass, or none does, or there are too many
abbrev pub IsNotWoven : Check → List (List ℕ) → Type 0
IsNotWoven check tried = IsWeaveOf check tried disputed ⊎ ((count : ℕ) × IsWeaveOf check tried (missing count)) ⊎ IsWeaveOf check tried too_many

-- How bytes stand by a check. Whole: the only version that passes. Disputed: two that differ pass. Where none does, and by the check versions
-- are woven, it is tried with some: woven is what is, and all else is missing. The bytes of what is neither whole nor woven are these others.
abbrev pub StandsBy : Check → (versions tried : List (List ℕ)) → (others bytes : List ℕ) → State → Type 0
StandsBy check versions tried others bytes Whole = IsOnly (IsPassing check versions) bytes
StandsBy check versions tried others bytes Disputed = IsOfTwo (IsPassing check versions) × (bytes ≡ others)
StandsBy check versions tried others bytes (Woven count) =
    IsOfNone (IsPassing check versions) × CanWeave check × IsWeaveOf check tried (woven bytes count)
StandsBy check versions tried others bytes Missing =
    IsOfNone (IsPassing check versions) × (CanWeave check → IsNotWoven check tried) × (bytes ≡ others)
StandsBy check versions tried others bytes _ = ⊥

-- What becomes of bytes without parts whose versions these are, by their check: a Configuration Record or a frame of FLAC. From is the version
-- that is taken where nothing vouches. They are woven as they are.
pub record IsCheckedMend (check : Check) (versions : List (List ℕ)) (from : List ℕ) (mended : MendedValue) : Type 0 where
  pub stands : StandsBy check versions versions from mended.bytes mended.state
  pub none : mended.parts ≡ []

-- ---- elements with a CRC-32

-- An element stands by its CRC-32. Its improved versions are woven, and the fallback is taken where nothing vouches.
abbrev pub ElementStands : List (List ℕ) → List ℕ → List Part → List PartValue → List ℕ → State → Type 0
ElementStands versions from parts mends bytes state =
    StandsBy Element versions (improved versions parts mends) (fallback from parts mends) bytes state

-- the element is whole, and every version is it
abbrev pub IsWholeInAll : List (List ℕ) → MendedValue → Type 0
IsWholeInAll versions mended = (mended.state ≡ Whole) × IsOnly (Contains versions) mended.bytes

-- What becomes of each part; but nothing where the element is whole in all versions, since no part is looked at then.
abbrev pub HasParts : List (List ℕ) → List Part → MendedValue → Type 0
HasParts versions parts mended =
    (IsWholeInAll versions mended × (mended.parts ≡ [])) ⊎ ((IsWholeInAll versions mended → ⊥) × ArePartMends versions parts mended.parts)

-- What becomes of an element whose versions these are, with frames as its parts; from is the version that is taken where nothing vouches.
pub record IsElementMend (versions : List (List ℕ)) (from : List ℕ) (parts : List Part) (mended : MendedValue) : Type 0 where
  pub mends : HasParts versions parts mended
  pub stands : ElementStands versions from parts mended.parts mended.bytes mended.state

-- ---- frames

-- all of a frame is settled
abbrev pub IsFrameSettled : SplicedValue → Type 0
IsFrameSettled splice = (splice.front ≡ 0) × All (λ place. place.standing ≡ standing.Settled) splice.places

-- how many combinations a place stands for
abbrev pub count_at : Standing → ℕ
count_at (standing.Woven count) = count
count_at _ = 1

-- the product of numbers
abbrev pub product : List ℕ → ℕ
product [] = 1
product (n ∷ numbers) = n * product numbers

-- Whole: all is settled. Woven: it is given back, but not all is settled; the number is the product of its places', or 2^64 - 1 where that
-- is greater. Missing: it is not given back.
abbrev pub FrameStands : SplicedValue → State → Type 0
FrameStands splice Whole = IsFrameSettled splice
FrameStands splice (Woven count) =
    IsGivenBack splice × (IsFrameSettled splice → ⊥) × (count ≡ min (product (map (λ place. count_at place.standing) splice.places)) (2 ^ 64 - 1))
FrameStands splice Missing = IsGivenBack splice → ⊥
FrameStands splice _ = ⊥

-- what becomes of a frame whose versions these are: it stands by its splice, and has the splice's bytes
pub record IsFrameMend (versions : List (List ℕ)) (mended : MendedValue) : Type 0 where
  pub splice : SplicedValue
  pub is_splice : IsSpliceOf versions splice
  pub alone : mended.parts ≡ spliced splice ∷ []
  pub bytes : mended.bytes ≡ splice.payload
  pub stands : FrameStands splice mended.state

-- ---- bytes without a checksum

-- Alone: there is one version. Agreed: there are several, and all are equal. Open: two differ, and the bytes are those of from.
abbrev pub PlainStands : List (List ℕ) → List ℕ → List ℕ → State → Type 0
PlainStands versions from bytes Alone = versions ≡ bytes ∷ []
PlainStands versions from bytes Agreed = (1 < length versions) × IsOnly (Contains versions) bytes
PlainStands versions from bytes Open = IsOfTwo (Contains versions) × (bytes ≡ from)
PlainStands versions from bytes _ = ⊥

-- what becomes of bytes without a checksum whose versions these are
pub record IsPlainMend (versions : List (List ℕ)) (from : List ℕ) (mended : MendedValue) : Type 0 where
  pub stands : PlainStands versions from mended.bytes mended.state
  pub none : mended.parts ≡ []

-- ---- all kinds

-- What becomes of a stretch of a kind whose versions these are: from is the version that is taken where nothing vouches, and the parts are
-- the frames in an element.
abbrev pub IsMendOf : Kind → List (List ℕ) → List ℕ → List Part → MendedValue → Type 0
IsMendOf Frame versions from parts mended = IsFrameMend versions mended
IsMendOf Crc32 versions from parts mended = IsElementMend versions from parts mended
IsMendOf Record versions from parts mended = IsCheckedMend checks.Record versions from mended
IsMendOf Flac versions from parts mended = IsCheckedMend checks.Flac versions from mended
IsMendOf Plain versions from parts mended = IsPlainMend versions from mended
