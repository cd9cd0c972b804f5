-- Entries as they follow each other in a holding file.
use Rattle.std.specs.Prelude.{◌≡◌, ℕ, ◌≤◌, ◌<◌, ◌^◌, ◌⊎◌, List, [], ◌∷◌, length, Option, Some, None}
use Rattle.std.specs.List.{AllByRecursion}
use Rattle.std.specs.declared.cmp.Ordering.{Ordering}
use Rattle.std.specs.declared.cmp.Ordering.TheVariants.{Less}
use Rattle.ffv1_bits.specs.Limits.{slice_limit}
use Rattle.ffv1_range.specs.TileHeaders.{TileRules}
use Rattle.ffv1_holding.specs.SliceOrder.{Entry, entry_cmp, bytes_cmp}
use Rattle.ffv1_holding.specs.Rising.{IsRising}
use Rattle.ffv1_holding.specs.Contents.{IsEntryOf, AreDigests}
use Rattle.ffv1_holding.specs.Reels.{Reel}
use Rattle.ffv1_hold.specs.declared.version.Version.{Version}
use Rattle.ffv1_hold.specs.declared.version.Version.TheVariants.{First, Second}
use Rattle.ffv1_hold.specs.HoldingText.{FileEntry, origins_limit, HasFileVersion, IsOfAnyFrames, CanBeFirst, TellsMagic}

-- the last item, if there is one
abbrev pub last_of : {A : Type 0} → List A → Option A
last_of [] = None
last_of (x ∷ []) = Some x
last_of (x ∷ y ∷ ys) = last_of (y ∷ ys)

-- a slice stands after the last entry, if there is one
abbrev pub Follows : Option FileEntry → Entry → Type 0
Follows None e = Unit {0}
Follows (Some last) e = entry_cmp last.0 e ≡ Less

-- What comes after the last entry, a slice or the end, keeps the magic right: where no entry stands before, a slice has to tell it.
abbrev pub KeepsMagic : Reel → Option FileEntry → Option Entry → Type 0
KeepsMagic r (Some last) next = Unit {0}
KeepsMagic r None (Some e) = CanBeFirst r e
KeepsMagic r None None = ¬ IsOfAnyFrames r

-- a digest stands after the last one, if there is one
abbrev pub FollowsDigest : Option (List ℕ) → List ℕ → Type 0
FollowsDigest None digest = Unit {0}
FollowsDigest (Some last) digest = bytes_cmp last digest ≡ Less

-- a SHA-256 digest has 32 bytes
abbrev pub IsDigest : List ℕ → Type 0
IsDigest digest = length digest ≡ 32

-- digests in strictly rising order
pub record AreOrigins (digests : List (List ℕ)) : Type 0 where
  pub each : AllByRecursion IsDigest digests
  pub rising : AreDigests digests

-- what can stand after a slice: nothing in version 1, rising digests in version 2
abbrev pub AreDigestsIn : Version → List (List ℕ) → Type 0
AreDigestsIn First digests = digests ≡ []
AreDigestsIn Second digests = AreOrigins digests × (length digests ≤ origins_limit)

-- A slice of its tile, and what can stand after it.
pub record IsFileEntryOf (v : Version) (rules : TileRules) (e : FileEntry) : Type 0 where
  pub slice : IsEntryOf rules e.0
  pub origins : AreDigestsIn v e.1

abbrev pub file_entry_cmp : FileEntry → FileEntry → Ordering
file_entry_cmp a b = entry_cmp a.0 b.0

-- slices of their tiles, in rising order of tile and bytes, in a version that the recording's files have, the first of which tells the magic
pub record AreEntries (v : Version) (r : Reel) (es : List FileEntry) : Type 0 where
  pub version : HasFileVersion v r.rules.is_profile
  pub each : AllByRecursion (IsFileEntryOf v r.rules) es
  pub rising : IsRising file_entry_cmp es
  pub first : (es ≡ []) ⊎ TellsMagic r es

-- what has a text after a slice, in whatever order
abbrev pub HasTextAfter : Version → List (List ℕ) → Type 0
HasTextAfter First digests = digests ≡ []
HasTextAfter Second digests = AllByRecursion IsDigest digests × (length digests ≤ origins_limit)

-- An entry that has a text: its tile's number takes two bytes, its slice is within its limit, and so are its digests.
abbrev pub HasText : Version → FileEntry → Type 0
HasText v e = (e.0.0 < 2 ^ 16) × (length e.0.1 ≤ slice_limit) × HasTextAfter v e.1
