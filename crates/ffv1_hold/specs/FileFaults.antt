-- Which bytes begin a holding file, and which show a fault in it. Judged are, in byte order: the magic, which gives the version, and
-- whether the slices are of the profile; the record's length; the setup, after the record; each tag; each slice's length; after a slice's
-- bytes whether they are a slice of its tile, whether it stands in order, and then, at the first, whether the magic is right, as at an end tag
-- before any; and in version 2 the count of its digests, and each digest, whether it stands in order.
use Rattle.std.specs.Prelude.{ℕ, Bool, true, false, ◌≡◌, ◌==◌, ◌+◌, ◌^◌, ◌<◌, ◌≤◌, ◌⊎◌, List, [], ◌∷◌, ◌++◌, length, take, Option, Some, None, Result, Ok, Err}
use Rattle.std.specs.List.{flat_map}
use Rattle.std.specs.Io.KnownBytes.{IsAtEnd}
use Rattle.ffv1_bits.specs.Limits.{slice_limit, record_limit, file_limit}
use Rattle.ffv1_devices.specs.Logs.{ReadLog, GoesOn}
use Rattle.ffv1_slice.specs.Slices.{IsSliceOf}
use Rattle.ffv1_hold.specs.declared.file_fault.HoldFileFault.{HoldFileFault}
use Rattle.ffv1_hold.specs.declared.file_fault.HoldFileFault.TheVariants as faults
use Rattle.ffv1_hold.specs.declared.version.Version.{Version}
use Rattle.ffv1_hold.specs.declared.version.Version.TheVariants.{First, Second}
use Rattle.ffv1_holding.specs.SliceOrder.{Entry}
use Rattle.ffv1_holding.specs.Reels.{Reel, IsReel, FirstRecordFault, WantsMemory}
use Rattle.ffv1_holding.specs.declared.recordings.Recordings.{Recordings}
use Rattle.ffv1_holding.specs.declared.recordings.Recordings.TheVariants.{Profile, Any}
use Rattle.ffv1_holding.specs.Contents.{Contents, IsHolding, IsEntryOf}
use Rattle.ffv1_hold.specs.HoldingText.{TakesFile, FileEntry, HasFileVersion, origins_limit, magic, be2, be4, sized_record, head_text, slice_text, entries_text, IsTextOf}
use Rattle.ffv1_hold.specs.Reading.{Refuses, StopsAt}
use Rattle.ffv1_hold.specs.FileEntries.{last_of, Follows, KeepsMagic, FollowsDigest, IsDigest, AreOrigins, AreEntries}

-- a beginning of one: some of its tile and its length, or both and some of its bytes
abbrev pub IsPartOfSlice : List ℕ → Type 0
IsPartOfSlice s = (length s < 6) ⊎ ((tile n : ℕ) × (bytes : List ℕ) × (s ≡ be2 tile ++ be4 n ++ bytes) × (n ≤ slice_limit) × (length bytes < n))

-- its length passes the limit
abbrev pub SliceIsTooLong : HoldFileFault → List ℕ → Type 0
SliceIsTooLong faults.TooLong s = (tile n : ℕ) × (s ≡ be2 tile ++ be4 n) × (slice_limit < n) × (n < 2 ^ 32)
SliceIsTooLong _ s = ⊥

-- an entry after the last one is no slice of its tile, or it is one in the wrong place, or one that shows that the magic is wrong
abbrev pub IsWrong : Reel → Option FileEntry → Entry → HoldFileFault → Type 0
IsWrong r last e faults.NotASlice = ¬ IsSliceOf r.rules e.1 (e.0 == 0) e.0
IsWrong r last e faults.Order = IsSliceOf r.rules e.1 (e.0 == 0) e.0 × (¬ Follows last e)
IsWrong r last e faults.Magic = IsSliceOf r.rules e.1 (e.0 == 0) e.0 × Follows last e × (¬ KeepsMagic r last (Some e))
IsWrong r last e _ = ⊥

abbrev pub SliceShows : Reel → Option FileEntry → HoldFileFault → List ℕ → Type 0
SliceShows r last faults.TooLong s = SliceIsTooLong faults.TooLong s
SliceShows r last f s = (e : Entry) × (s ≡ slice_text e) × (e.0 < 2 ^ 16) × (length e.1 ≤ slice_limit) × IsWrong r last e f

-- ---- the digests after a slice

-- a beginning of them: some of their count, or that and fewer digests, and some of the next
abbrev pub IsPartOfOrigins : List ℕ → Type 0
IsPartOfOrigins s = (length s < 4) ⊎ ((n : ℕ) × (digests : List (List ℕ)) × (cut : List ℕ) × (s ≡ be4 n ++ flat_map (λ digest. digest) digests ++ cut)
    × (n ≤ origins_limit) × AreOrigins digests × (length digests < n) × (length cut < 32))

-- their count passes the limit, or a digest stands in the wrong place
abbrev pub OriginsShow : HoldFileFault → List ℕ → Type 0
OriginsShow faults.TooLong s = (n : ℕ) × (s ≡ be4 n) × (origins_limit < n) × (n < 2 ^ 32)
OriginsShow faults.Order s = (n : ℕ) × (digests : List (List ℕ)) × (digest : List ℕ) × (s ≡ be4 n ++ flat_map (λ digest. digest) digests ++ digest)
    × (n ≤ origins_limit) × AreOrigins digests × (length digests < n) × IsDigest digest × (¬ FollowsDigest (last_of digests) digest)
OriginsShow _ s = ⊥

-- what stands after a slice in a version: in version 1 nothing is read there
abbrev pub IsPartAfter : Version → List ℕ → Type 0
IsPartAfter First s = ⊥
IsPartAfter Second s = IsPartOfOrigins s

abbrev pub ShowsAfter : Version → HoldFileFault → List ℕ → Type 0
ShowsAfter First f s = ⊥
ShowsAfter Second f s = OriginsShow f s

-- ---- an entry after its tag

-- a slice of its tile, in its place
abbrev pub IsEntryInPlace : Reel → Option FileEntry → Entry → Type 0
IsEntryInPlace r last e = IsEntryOf r.rules e × Follows last e × (e.0 < 2 ^ 16) × KeepsMagic r last (Some e)

-- a beginning of its slice, or the slice, which is right, and a beginning of what stands after it
abbrev pub IsPartOfBody : Version → Reel → Option FileEntry → List ℕ → Type 0
IsPartOfBody v r last s = IsPartOfSlice s
    ⊎ ((e : Entry) × (part : List ℕ) × (s ≡ slice_text e ++ part) × IsEntryInPlace r last e × IsPartAfter v part)

abbrev pub BodyShows : Version → Reel → Option FileEntry → HoldFileFault → List ℕ → Type 0
BodyShows v r last f s = SliceShows r last f s
    ⊎ ((e : Entry) × (seen : List ℕ) × (s ≡ slice_text e ++ seen) × IsEntryInPlace r last e × ShowsAfter v f seen)

-- ---- entries in rising order

abbrev pub IsPartOfEntry : Version → Reel → Option FileEntry → List ℕ → Type 0
IsPartOfEntry v r last s = (s ≡ []) ⊎ ((body : List ℕ) × (s ≡ 1 ∷ body) × IsPartOfBody v r last body)

-- the end tag stands where only an entry could tell the magic
abbrev pub EndShows : Reel → Option FileEntry → HoldFileFault → List ℕ → Type 0
EndShows r last faults.Magic s = (s ≡ 0 ∷ []) × (¬ KeepsMagic r last None)
EndShows r last _ s = ⊥

abbrev pub EntryShows : Version → Reel → Option FileEntry → HoldFileFault → List ℕ → Type 0
EntryShows v r last faults.Tag s = (tag : ℕ) × (s ≡ tag ∷ []) × (1 < tag)
EntryShows v r last f s = EndShows r last f s ⊎ ((body : List ℕ) × (s ≡ 1 ∷ body) × BodyShows v r last f body)

-- entries, and a beginning of the next, or of the end
abbrev pub IsPartOfEntries : Version → Reel → List ℕ → Type 0
IsPartOfEntries v r s = (es : List FileEntry) × (part : List ℕ) × AreEntries v r es × (s ≡ entries_text v es ++ part)
    × IsPartOfEntry v r (last_of es) part

abbrev pub EntriesShow : Version → Reel → HoldFileFault → List ℕ → Type 0
EntriesShow v r f s = (es : List FileEntry) × (seen : List ℕ) × AreEntries v r es × (s ≡ entries_text v es ++ seen)
    × EntryShows v r (last_of es) f seen

-- ---- the size and the record

-- the files that are read: those whose slices are of the profile, or any
abbrev pub MayRead : Recordings → Bool → Type 0
MayRead Profile of_profile = of_profile ≡ true
MayRead Any of_profile = Unit {0}

abbrev pub MayTake : Recordings → Reel → Type 0
MayTake recordings r = MayRead recordings r.rules.is_profile

-- as which recordings the record after a magic is read
abbrev pub recordings_of : Bool → Recordings
recordings_of true = Profile
recordings_of false = Any

-- the record is one at the reel's size, of those that are read, and within its limit
pub record IsFileReel (recordings : Recordings) (r : Reel) : Type 0 where
  pub reel : IsReel r
  pub taken : MayRead recordings r.rules.is_profile
  pub fits : length r.config ≤ record_limit

-- a beginning of the size and the record
abbrev pub IsPartOfReel : List ℕ → Type 0
IsPartOfReel s = (length s < 12) ⊎ ((w h n : ℕ) × (config : List ℕ) × (s ≡ be4 w ++ be4 h ++ be4 n ++ config) × (n ≤ record_limit) × (length config < n))

abbrev pub ReelShows : Bool → HoldFileFault → List ℕ → Type 0
ReelShows of_profile faults.TooLong s = (w h n : ℕ) × (s ≡ be4 w ++ be4 h ++ be4 n) × (record_limit < n) × (n < 2 ^ 32)
ReelShows of_profile (faults.Setup f) s =
    (config : List ℕ) × (w h : ℕ) × (s ≡ sized_record config w h) × (length config ≤ record_limit) × (w < 2 ^ 32) × (h < 2 ^ 32)
    × FirstRecordFault (recordings_of of_profile) config w h f
ReelShows of_profile _ s = ⊥

-- the size and the record are whole, after which memory for the setup is wanted
abbrev pub ReelIsWhole : Bool → HoldFileFault → List ℕ → Type 0
ReelIsWhole of_profile faults.Memory s = (config : List ℕ) × (w h : ℕ) × (s ≡ sized_record config w h) × (length config ≤ record_limit) × (w < 2 ^ 32) × (h < 2 ^ 32)
    × WantsMemory (recordings_of of_profile) config w h
ReelIsWhole of_profile _ s = ⊥

-- ---- the magic

-- files are read that have this magic
abbrev pub IsMagic : Recordings → Bool → Version → Type 0
IsMagic recordings of_profile v = MayRead recordings of_profile × HasFileVersion v of_profile

-- The bytes begin the magic of files that are read.
pub record BeginsMagic (recordings : Recordings) (s : List ℕ) : Type 0 where
  pub of_profile : Bool
  pub version : Version
  pub is_magic : IsMagic recordings of_profile version
  pub begins : s ≡ take (length s) (magic of_profile version)

-- a beginning of a magic
abbrev pub IsPartOfMagic : Recordings → List ℕ → Type 0
IsPartOfMagic recordings s = (length s < 8) × BeginsMagic recordings s

-- what begins no magic, though all before its last byte begins one
abbrev pub MagicShows : Recordings → HoldFileFault → List ℕ → Type 0
MagicShows recordings faults.Magic s = (seen : List ℕ) × (wrong : ℕ) × (s ≡ seen ++ wrong ∷ []) × IsPartOfMagic recordings seen × (¬ BeginsMagic recordings s)
MagicShows recordings _ s = ⊥

-- ---- the whole file

-- a beginning of a file that shows no fault yet: of its magic, of its size and record, or of its entries and the end
abbrev pub IsPartOfFile : Recordings → List ℕ → Type 0
IsPartOfFile recordings s = IsPartOfMagic recordings s
    ⊎ ((of_profile : Bool) × (v : Version) × (part : List ℕ) × IsMagic recordings of_profile v × (s ≡ magic of_profile v ++ part) × IsPartOfReel part)
    ⊎ ((v : Version) × (r : Reel) × (part : List ℕ) × IsFileReel recordings r × (s ≡ head_text v r ++ part) × IsPartOfEntries v r part)

-- the beginning of a file whose last byte shows the fault
abbrev pub FileShows : Recordings → HoldFileFault → List ℕ → Type 0
FileShows recordings f s = MagicShows recordings f s
    ⊎ ((of_profile : Bool) × (v : Version) × (seen : List ℕ) × IsMagic recordings of_profile v × (s ≡ magic of_profile v ++ seen) × ReelShows of_profile f seen)
    ⊎ ((v : Version) × (r : Reel) × (seen : List ℕ) × IsFileReel recordings r × (s ≡ head_text v r ++ seen) × EntriesShow v r f seen)

-- a text of a holding whose reel is one of a file
abbrev pub IsHoldingText : Recordings → List ℕ → Type 0
IsHoldingText recordings s = (h : Contents) × IsHolding h × IsFileReel recordings h.reel × IsTextOf s h

-- What is whole where a fault comes that no byte of it shows: a text, whose end is looked for, or a head, whose setup needs memory.
abbrev pub FileIsWhole : Recordings → HoldFileFault → List ℕ → Type 0
FileIsWhole recordings faults.Read s = IsHoldingText recordings s
FileIsWhole recordings faults.Trailing s = IsHoldingText recordings s
FileIsWhole recordings faults.Memory s =
    (of_profile : Bool) × (v : Version) × (reel : List ℕ) × IsMagic recordings of_profile v × (s ≡ magic of_profile v ++ reel)
    × ReelIsWhole of_profile faults.Memory reel
FileIsWhole recordings _ s = ⊥

-- the device or memory is the fault, and not the bytes
abbrev pub IsOutside : HoldFileFault → Type 0
IsOutside faults.Read = Unit {0}
IsOutside faults.Memory = Unit {0}
IsOutside _ = ⊥

-- The fault of an input: what reading it to its end, or to the fault, comes to where neither device nor memory fails.
abbrev pub IsFaultOf : Recordings → List ℕ → HoldFileFault → Type 0
IsFaultOf recordings input f = (¬ IsOutside f)
    × ((left : Option (List ℕ)) × Refuses (IsPartOfFile recordings) (FileIsWhole recordings) (FileShows recordings) (Some input) left 0 f)

-- what is returned for the text of a holding
abbrev pub Returns : Contents → Result Contents HoldFileFault → Type 0
Returns h (Ok g) = g ≡ h
Returns h (Err f) = IsOutside f

-- A source was read to its end, and was the file of a holding.
pub record ReadsHolding (recordings : Recordings) (old new : ReadLog) (h : Contents) : Type 0 where
  pub well_formed : IsHolding h
  pub taken : MayTake recordings h.reel
  pub file : TakesFile old.remaining new.remaining h
  pub at_end : IsAtEnd new.remaining
  pub tries' : GoesOn old.tries new.tries
  pub few : new.taken ≤ old.taken + file_limit

-- that, or reading stopped at the first fault
abbrev pub ReadsFile : Recordings → Result Contents HoldFileFault → ReadLog → ReadLog → Type 0
ReadsFile recordings (Ok h) old new = ReadsHolding recordings old new h
ReadsFile recordings (Err f) old new = StopsAt (IsPartOfFile recordings) (FileIsWhole recordings) (FileShows recordings) old new 0 f
