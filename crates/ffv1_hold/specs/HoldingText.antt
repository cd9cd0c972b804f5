-- The texts of a holding (own): holding files of version 1, which give its slices, and of version 2, which give their origins too. Those of
-- recordings out of the profile, or of any frames, have a name of their own, and no version 1.
use Rattle.std.specs.Prelude.{ℕ, ◌≡◌, ◌≤◌, Bool, true, false, List, [], ◌∷◌, ◌++◌, length, map, Option, if◌then◌else◌}
use Rattle.std.specs.List.{flat_map}
use Rattle.std.specs.Io.KnownBytes.{Consumes}
use Rattle.std.specs.Int.{w16, w32, to_be_bytes}
use Rattle.ffv1_bits.specs.Limits.{record_limit, file_limit}
use Rattle.ffv1_range.specs.TileHeaders.{TileRules}
use Rattle.ffv1_range.specs.Frames.{HasKey}
use Rattle.ffv1_slice.specs.Slices.{content_of}
use Rattle.ffv1_holding.specs.SliceOrder.{Entry}
use Rattle.ffv1_holding.specs.Sets as set
use Rattle.ffv1_holding.specs.Reels.{Reel, IsOwnReel}
use Rattle.ffv1_holding.specs.Contents.{Contents, digests_of}
use Rattle.ffv1_hold.specs.declared.origins.TheConstants.{ORIGINS_LIMIT}
use Rattle.ffv1_hold.specs.declared.version.Version.{Version}
use Rattle.ffv1_hold.specs.declared.version.Version.TheVariants.{First, Second}

-- numbers of two and four bytes, most significant byte first
unfoldable pub be2 : ℕ → List ℕ
be2 n = to_be_bytes w16 n

unfoldable pub be4 : ℕ → List ℕ
be4 n = to_be_bytes w32 n

-- the greatest count of one slice's digests in a holding file: 2^26
abbrev pub origins_limit : ℕ
origins_limit = ORIGINS_LIMIT

-- a slice with its tile, and the digests that stand after it
abbrev pub FileEntry : Type 0
FileEntry = Entry × List (List ℕ)

abbrev pub version_number : Version → ℕ
version_number First = 1
version_number Second = 2

-- What files begin with, by whether their slices are of the profile: FFV1HLD and the version; or FFV1ANY and 1, where the version is 2.
abbrev pub magic : Bool → Version → List ℕ
magic of_profile v = 70 ∷ 70 ∷ 86 ∷ 49 ∷ (if of_profile then 72 else 65) ∷ (if of_profile then 76 else 78) ∷ (if of_profile then 68 else 89)
    ∷ (if of_profile then version_number v else 1) ∷ []

-- version 1 is of recordings of the profile alone
abbrev pub HasFileVersion : Version → Bool → Type 0
HasFileVersion First of_profile = of_profile ≡ true
HasFileVersion Second of_profile = Unit {0}

-- a width, a height and a record
unfoldable pub sized_record : List ℕ → ℕ → ℕ → List ℕ
sized_record config width height = be4 width ++ be4 height ++ be4 (length config) ++ config

-- what stands before the entries
unfoldable pub head_text : Version → Reel → List ℕ
head_text v r = magic r.rules.is_profile v ++ sized_record r.config r.setup.width r.setup.height

-- a slice: its tile, its length and its bytes
unfoldable pub slice_text : Entry → List ℕ
slice_text e = be2 e.0 ++ be4 (length e.1) ++ e.1

-- digests: their count, and then one after the other
unfoldable pub origins_text : List (List ℕ) → List ℕ
origins_text digests = be4 (length digests) ++ flat_map (λ digest. digest) digests

-- what stands after a slice: nothing in version 1, its digests in version 2
abbrev pub text_after_slice : Version → List (List ℕ) → List ℕ
text_after_slice First digests = []
text_after_slice Second digests = origins_text digests

-- an entry after its tag
unfoldable pub body_text : Version → FileEntry → List ℕ
body_text v e = slice_text e.0 ++ text_after_slice v e.1

abbrev pub entry_text : Version → FileEntry → List ℕ
entry_text v e = 1 ∷ body_text v e

unfoldable pub entries_text : Version → List FileEntry → List ℕ
entries_text v es = flat_map (entry_text v) es

-- the slices of a holding in rising order of tile and bytes, each with its digests
unfoldable pub file_entries : Contents → List FileEntry
file_entries h = map (λ e. (e, digests_of h e)) (set.items h.slices)

-- the text of a holding without its end tag: its head and its entries
abbrev pub begun_text : Version → Contents → List ℕ
begun_text v h = head_text v h.reel ++ entries_text v (file_entries h)

-- the text of a holding in a version: its head, its entries and the end tag
abbrev pub file_text : Version → Contents → List ℕ
file_text v h = begun_text v h ++ 0 ∷ []

-- the text that is written of a holding: that of version 2
abbrev pub holding_text : Contents → List ℕ
holding_text h = file_text Second h

-- what the version can give: in version 1 no origins, of recordings of the profile; in version 2 at most 2^26 of each slice
abbrev pub IsStated : Version → Contents → Type 0
IsStated First h = (h.origins ≡ set.empty) × HasFileVersion First h.reel.rules.is_profile
IsStated Second h = (e : Entry) → set.contains h.slices e ≡ true → length (digests_of h e) ≤ origins_limit

-- ---- the frames, which the first entry tells

-- slices of any frames, by a record of the profile
abbrev pub IsOfAnyFrames : Reel → Type 0
IsOfAnyFrames r = (r.rules.is_profile ≡ false) × ((own : Reel) × IsOwnReel own r × (own.rules.is_profile ≡ true))

-- the first slice of a frame that is no keyframe: its keyframe bit is 0 (RFC 9043, section 4.4)
abbrev pub IsNoKeyframe : TileRules → List ℕ → Type 0
IsNoKeyframe rules slice = HasKey rules (content_of slice) false

-- A file of any frames of such a record has one of these first, which is of tile 0: else it is written as one of keyframes.
abbrev pub CanBeFirst : Reel → Entry → Type 0
CanBeFirst r e = IsOfAnyFrames r → (e.0 ≡ 0) × IsNoKeyframe r.rules e.1

-- the entries of a whole file tell that its magic is right
abbrev pub TellsMagic : Reel → List FileEntry → Type 0
TellsMagic r [] = ¬ IsOfAnyFrames r
TellsMagic r (e ∷ es) = CanBeFirst r e.0

-- ---- texts that are files

-- a text of a holding: that of version 2, or, where it is of the profile and has no origins, that of version 1
abbrev pub IsTextOf : List ℕ → Contents → Type 0
IsTextOf text h = (v : Version) × IsStated v h × TellsMagic h.reel (file_entries h) × (text ≡ file_text v h)

-- A holding has a file of a version where that can give its origins, its first slice tells its magic, and its text and its record are within
-- their limits.
pub record FitsInFile (v : Version) (h : Contents) : Type 0 where
  pub stated : IsStated v h
  pub tells : TellsMagic h.reel (file_entries h)
  pub record' : length h.reel.config ≤ record_limit
  pub text : length (file_text v h) ≤ file_limit

-- The bytes that were taken are the file of the holding, of one version.
pub record TakesFile (old new : Option (List ℕ)) (h : Contents) : Type 0 where
  pub version : Version
  pub fits : FitsInFile version h
  pub taken : Consumes old new (file_text version h)
