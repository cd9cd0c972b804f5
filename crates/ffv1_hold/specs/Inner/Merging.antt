-- Where joining two holding files as streams stands (own).
use Rattle.std.specs.Prelude.{ℕ, ◌≡◌, ◌≢◌, ◌+◌, ◌<◌, ◌≤◌, ◌⊎◌, List, [], ◌++◌, length, Option, Some, None, IfSome, IfNone}
use Rattle.std.specs.List.{AllByRecursion}
use Rattle.std.specs.Io.KnownBytes.{Consumes, Appends, IsAtEnd}
use Rattle.std.specs.declared.cmp.Ordering.{Ordering}
use Rattle.std.specs.declared.cmp.Ordering.TheVariants.{Less, Equal, Greater}
use Rattle.ffv1_bits.specs.Limits.{slice_limit, file_limit}
use Rattle.ffv1_devices.specs.Writing.{WritesFront}
use Rattle.ffv1_holding.specs.SliceOrder.{entry_cmp, bytes_cmp, origin_cmp, with_each}
use Rattle.ffv1_holding.specs.Sets as set
use Rattle.ffv1_holding.specs.Reels.{Reel}
use Rattle.ffv1_holding.specs.Contents.{Contents, IsHolding}
use Rattle.ffv1_holding.specs.declared.recordings.Recordings.{Recordings}
use Rattle.ffv1_hold.specs.declared.file_fault.HoldFileFault.{HoldFileFault}
use Rattle.ffv1_hold.specs.declared.file_fault.HoldFileFault.TheVariants as faults
use Rattle.ffv1_hold.specs.declared.merging.Merge.{Merge}
use Rattle.ffv1_hold.specs.declared.version.Version.{Version}
use Rattle.ffv1_hold.specs.declared.version.Version.TheVariants.{Second}
use Rattle.ffv1_hold.specs.HoldingText.{FileEntry, HasFileVersion, origins_limit, head_text, entry_text, begun_text, file_entries, IsStated, TellsMagic}
use Rattle.ffv1_hold.specs.Inner.Reading.{Takes}
use Rattle.ffv1_hold.specs.Reading.{Refuses}
use Rattle.ffv1_hold.specs.FileEntries.{last_of, Follows, KeepsMagic, AreOrigins, IsFileEntryOf}
use Rattle.ffv1_hold.specs.Inner.FileEntries.{next_text}
use Rattle.ffv1_hold.specs.FileFaults.{IsFileReel}
use Rattle.ffv1_hold.specs.Inner.FileFaults.{IsPartOfHead, HeadIsWhole, HeadShows}
use Rattle.ffv1_hold.specs.ReadLimits.{LiesWhole, AreAllDigests}
use Rattle.ffv1_hold.specs.UnitedHoldings.{AreOfOneRecord, reel_of_both}
use Rattle.ffv1_hold.specs.MergeLogs.{Devices}
use Rattle.ffv1_hold.specs.MergedStreams.{Inputs, IsFileOf, IsFileOfSome, ReadsOtherHeads, MergeRefuses, WritesEntries, WritesFrontSoFar, WritesAtMost, ReadsBoth, StreamBegins}

-- which files are read, what both inputs had left and the sink held at first, the reels of both heads, and their versions
pub record Start : Type 0 where
  pub recordings : Recordings
  pub left : Option (List ℕ)
  pub right : Option (List ℕ)
  pub sink : Option (List ℕ)
  pub left_reel : Reel
  pub right_reel : Reel
  pub left_version : Version
  pub right_version : Version

-- the reel of what is written
abbrev pub union_reel : Start → Reel
union_reel s = reel_of_both s.left_reel s.right_reel

abbrev pub inputs_from : Start → Option (List ℕ) → Option (List ℕ) → Inputs
inputs_from s left right = record { recordings = s.recordings; left_old = s.left; left_new = left; right_old = s.right; right_new = right }

-- ---- what is held of a reel

-- slices, and their origins
abbrev pub Facts : Type 0
Facts = set.SetOf entry_cmp × set.SetOf origin_cmp

-- a holding of the reel
abbrev pub part : Reel → Facts → Contents
part r facts = record { reel = r; slices = facts.0; origins = facts.1 }

abbrev pub no_facts : Facts
no_facts = (set.empty, set.empty)

-- with one entry more
abbrev pub with_file_entry : Facts → FileEntry → Facts
with_file_entry facts e = (set.insert facts.0 e.0, set.union facts.1 (set.from_list (with_each e.0 e.1)))

-- those of both
abbrev pub both : Facts → Facts → Facts
both lefts rights = (set.union lefts.0 rights.0, set.union lefts.1 rights.1)

-- ---- one input

-- no entry yet, or the first of them tells the magic
abbrev pub IsBegun : Reel → Facts → Type 0
IsBegun r facts = (file_entries (part r facts) ≡ []) ⊎ TellsMagic r (file_entries (part r facts))

-- An input was read up to these entries, the last of which is known.
pub record IsPassed (old new : Option (List ℕ)) (v : Version) (r : Reel) (facts : Facts) (place : ℕ) (last : Option FileEntry) : Type 0 where
  pub well_formed : IsHolding (part r facts)
  pub stated : IsStated v (part r facts)
  pub begun : IsBegun r facts
  pub text : Takes old new 0 place (begun_text v (part r facts))
  pub last' : last ≡ last_of (file_entries (part r facts))

-- the entry stands after these
abbrev pub FollowsAll : Reel → Facts → Option FileEntry → Type 0
FollowsAll r facts next = IfSome next (λ e. Follows (last_of (file_entries (part r facts))) e.0)

-- what comes after the last entry keeps the magic right
abbrev pub KeepsNext : Reel → (last next : Option FileEntry) → Type 0
KeepsNext r last (Some e) = KeepsMagic r last (Some e.0)
KeepsNext r last None = KeepsMagic r last None

abbrev pub KeepsAll : Reel → Facts → Option FileEntry → Type 0
KeepsAll r facts next = KeepsNext r (last_of (file_entries (part r facts))) next

-- An input was read up to these entries, and after them the next one, or to the end.
pub record IsReadUpTo (old new : Option (List ℕ)) (v : Version) (r : Reel) (facts : Facts) (place : ℕ) (next : Option FileEntry) : Type 0 where
  pub well_formed : IsHolding (part r facts)
  pub stated : IsStated v (part r facts)
  pub begun : IsBegun r facts
  pub text : Takes old new 0 place (begun_text v (part r facts) ++ next_text v next)
  pub entry : IfSome next (IsFileEntryOf v r.rules)
  pub after : FollowsAll r facts next
  pub keeps : KeepsAll r facts next
  pub at_end : IfNone next (IsAtEnd new)

-- What was read of an input beside another: entries that lie whole in what was written, where it is a text, and at most the next one, or
-- the end, after them.
pub record ReadsToNext (v : Version) (r : Reel) (old new beside : Option (List ℕ)) (done : List ℕ) : Type 0 where
  pub facts : Facts
  pub well_formed : IsHolding (part r facts)
  pub stated : IsStated v (part r facts)
  pub whole : (u : Version) (h : Contents) (other : Option Contents) → IsFileOf old u h → IsFileOfSome beside other
      → AllByRecursion (LiesWhole (AreAllDigests h other) r done) (file_entries (part r facts))
  pub more : List ℕ
  pub next : (more ≡ []) ⊎ ((next : Option FileEntry) × (more ≡ next_text v next) × IfSome next (IsFileEntryOf v r.rules))
  pub taken : Consumes old new (begun_text v (part r facts) ++ more)

-- ---- both inputs

-- the readers' versions are those of the heads
pub record AreVersions (s : Start) (left right : Version) : Type 0 where
  pub left_is : left ≡ s.left_version
  pub right_is : right ≡ s.right_version

-- The smaller of two next entries, with the digests of the other where their slices are equal, and the order of the left one and the right
-- one, where an end comes after all.
abbrev pub IsTurn : Option FileEntry → Option FileEntry → FileEntry → List (List ℕ) → Ordering → Type 0
IsTurn left right e others Less = (left ≡ Some e) × (others ≡ []) × IfSome right (λ f. entry_cmp e.0 f.0 ≡ Less)
IsTurn left right e others Greater = (right ≡ Some e) × (others ≡ []) × IfSome left (λ f. entry_cmp e.0 f.0 ≡ Less)
IsTurn left right e others Equal = (left ≡ Some e) × (right ≡ Some (e.0, others))

-- What comes next of both keeps the magic of the union right.
pub record KeepsUnion (r : Reel) (facts : Facts) (left right : Option FileEntry) : Type 0 where
  pub entry : (e : FileEntry) (others : List (List ℕ)) (order : Ordering) → IsTurn left right e others order → KeepsAll r facts (Some e)
  pub end : left ≡ None → right ≡ None → KeepsAll r facts None

-- the reels of both heads are those of files that are read, and of one record and size
pub record AreReels (s : Start) : Type 0 where
  pub left_is : IsFileReel s.recordings s.left_reel
  pub right_is : IsFileReel s.recordings s.right_reel
  pub one : AreOfOneRecord s.left_reel s.right_reel

-- Both heads of these reels were read, and nothing was written.
pub record IsOpened (s : Start) (l r : Reel) (left right sink : Option (List ℕ)) (left_place right_place : ℕ) : Type 0 where
  pub reels : AreReels s
  pub left_has : HasFileVersion s.left_version s.left_reel.rules.is_profile
  pub right_has : HasFileVersion s.right_version s.right_reel.rules.is_profile
  pub left_same : l ≡ s.left_reel
  pub right_same : r ≡ s.right_reel
  pub left_head : Takes s.left left 0 left_place (head_text s.left_version s.left_reel)
  pub right_head : Takes s.right right 0 right_place (head_text s.right_version s.right_reel)
  pub unwritten : sink ≡ s.sink

-- The entries of both inputs so far were written, each once, and what both hold next stands after them.
pub record Stands (s : Start) (left right sink : Option (List ℕ)) (left_place right_place room : ℕ) (left_next right_next : Option FileEntry) : Type 0 where
  pub reels : AreReels s
  pub lefts : Facts
  pub rights : Facts
  pub left_held : IsReadUpTo s.left left s.left_version s.left_reel lefts left_place left_next
  pub right_held : IsReadUpTo s.right right s.right_version s.right_reel rights right_place right_next
  pub written : Appends s.sink sink (begun_text Second (part (union_reel s) (both lefts rights)))
  pub left_after : FollowsAll (union_reel s) (both lefts rights) left_next
  pub right_after : FollowsAll (union_reel s) (both lefts rights) right_next
  pub begun : IsBegun (union_reel s) (both lefts rights)
  pub keeps : KeepsUnion (union_reel s) (both lefts rights) left_next right_next
  pub room_left : room + length (begun_text Second (part (union_reel s) (both lefts rights))) ≡ file_limit

-- the readers stand so, at devices
abbrev pub StandsAt : Start → Merge → Devices → Type 0
StandsAt s m d =
    AreVersions s m.lefts.version m.rights.version
    × Stands s d.left.remaining d.right.remaining d.sink.contents m.lefts.place m.rights.place m.room m.lefts.held m.rights.held

-- what is so wherever both heads of these reels were read and nothing was written ..
abbrev pub WhereOpened : Merge → (left right : Reel) → Devices → (Start → Type 0) → Type 0
WhereOpened m left right d Holds =
    (s : Start) → AreVersions s m.lefts.version m.rights.version
    → IsOpened s left right d.left.remaining d.right.remaining d.sink.contents m.lefts.place m.rights.place → Holds s

-- .. and wherever the readers stand after entries of these
abbrev pub WhereStands : Merge → (left right : Reel) → Devices → (Start → Type 0) → Type 0
WhereStands m left right d Holds =
    (s : Start) → left ≡ s.left_reel → right ≡ s.right_reel → AreVersions s m.lefts.version m.rights.version
    → Stands s d.left.remaining d.right.remaining d.sink.contents m.lefts.place m.rights.place m.room m.lefts.held m.rights.held → Holds s

-- Both inputs were read to their ends, and their entries were written, each once.
pub record Ends (s : Start) (left right sink : Option (List ℕ)) (room : ℕ) : Type 0 where
  pub reels : AreReels s
  pub lefts : Facts
  pub rights : Facts
  pub read : ReadsBoth (inputs_from s left right) (part s.left_reel lefts) (part s.right_reel rights)
  pub tells : TellsMagic (union_reel s) (file_entries (part (union_reel s) (both lefts rights)))
  pub written : Appends s.sink sink (begun_text Second (part (union_reel s) (both lefts rights)))
  pub room_left : room + length (begun_text Second (part (union_reel s) (both lefts rights))) ≡ file_limit

-- ---- refusals

-- why a head was refused
abbrev pub HeadRefuses : Recordings → (old new : Option (List ℕ)) → HoldFileFault → Type 0
HeadRefuses recordings old new f = Refuses (IsPartOfHead recordings) (HeadIsWhole recordings) (HeadShows recordings) old new 0 f

-- A head was refused, of the left input or after the left one of the right, or both are of two records or sizes.
abbrev pub HeadsRefuse : Inputs → HoldFileFault → Type 0
HeadsRefuse i f = (HeadRefuses i.recordings i.left_old i.left_new f × (i.right_new ≡ i.right_old))
    ⊎ (((v : Version) × (r : Reel) × IsFileReel i.recordings r × HasFileVersion v r.rules.is_profile × Consumes i.left_old i.left_new (head_text v r))
    × HeadRefuses i.recordings i.right_old i.right_new f)
    ⊎ ((f ≡ faults.OtherReel) × ReadsOtherHeads i)

-- after a failed write these bytes were written: a front of the text of the union of what was read
pub record StopsAtWrite (i : Inputs) (l r : Reel) (old new : Option (List ℕ)) : Type 0 where
  pub front : WritesFrontSoFar i old new
  pub done : List ℕ
  pub written : Appends old new done
  pub left_version : Version
  pub right_version : Version
  pub left : ReadsToNext left_version l i.left_old i.left_new i.right_old done
  pub right : ReadsToNext right_version r i.right_old i.right_new i.left_old done

-- What a refusal after two heads of one record and size says of all that was read and written.
pub record Stops (i : Inputs) (old new : Option (List ℕ)) (f : HoldFileFault) : Type 0 where
  pub left_reel : Reel
  pub right_reel : Reel
  pub left_is : IsFileReel i.recordings left_reel
  pub right_is : IsFileReel i.recordings right_reel
  pub one : AreOfOneRecord left_reel right_reel
  pub left_version : Version
  pub right_version : Version
  pub left_head : StreamBegins i.left_old (head_text left_version left_reel)
  pub right_head : StreamBegins i.right_old (head_text right_version right_reel)
  pub fault : MergeRefuses i f
  pub inside : f ≢ faults.OtherReel
  pub no_end : f ≢ faults.Write → WritesEntries i old new
  pub write : f ≡ faults.Write → StopsAtWrite i left_reel right_reel old new
  pub most : WritesAtMost old new file_limit

-- what a refusal says of all
abbrev pub MergeIsRefused : Inputs → Option (List ℕ) → Option (List ℕ) → HoldFileFault → Type 0
MergeIsRefused i old new f = (HeadsRefuse i f × (new ≡ old)) ⊎ Stops i old new f

-- ---- turns

-- rising digests of two lists, each once
abbrev pub digests_union : List (List ℕ) → List (List ℕ) → List (List ℕ)
digests_union xs ys = set.items (set.union (set.from_list {R = bytes_cmp} xs) (set.from_list ys))

-- an entry with the digests of an equal slice too
abbrev pub with_digests : FileEntry → List (List ℕ) → FileEntry
with_digests e others = (e.0, digests_union e.1 others)

-- an entry that can be written with the digests of another
abbrev pub IsWritten : FileEntry → Type 0
IsWritten e = (length e.0.1 ≤ slice_limit) × AreOrigins e.1 × (length e.1 ≤ origins_limit)

-- An entry was not written whole: there was no room for it, or a front of it was written.
abbrev pub EntryStops : Option (List ℕ) → Option (List ℕ) → ℕ → FileEntry → HoldFileFault → Type 0
EntryStops old new room e faults.TooLong = (new ≡ old) × (room < length (entry_text Second e))
EntryStops old new room e faults.Write = WritesFront old new (entry_text Second e) × (length (entry_text Second e) ≤ room)
EntryStops old new room e _ = ⊥
