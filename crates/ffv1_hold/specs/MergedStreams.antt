-- What joining two holding files as streams reads and writes (own).
use Rattle.std.specs.Prelude.{ℕ, ◌≡◌, ◌<◌, ◌≤◌, ◌⊎◌, List, [], ◌++◌, length, Option, Some, None, Result, Ok, Err}
use Rattle.std.specs.Io.KnownBytes.{Consumes, Appends, IsAtEnd}
use Rattle.ffv1_bits.specs.Limits.{record_limit, file_limit}
use Rattle.ffv1_devices.specs.Logs.{ReadLog}
use Rattle.ffv1_devices.specs.Writing.{WritesFront}
use Rattle.ffv1_holding.specs.Reels.{Reel}
use Rattle.ffv1_holding.specs.Contents.{Contents, IsHolding}
use Rattle.ffv1_holding.specs.declared.recordings.Recordings.{Recordings}
use Rattle.ffv1_hold.specs.declared.file_fault.HoldFileFault.{HoldFileFault}
use Rattle.ffv1_hold.specs.declared.file_fault.HoldFileFault.TheVariants as faults
use Rattle.ffv1_hold.specs.declared.version.Version.{Version}
use Rattle.ffv1_hold.specs.declared.version.Version.TheVariants.{Second}
use Rattle.ffv1_hold.specs.HoldingText.{HasFileVersion, head_text, begun_text, file_text, holding_text, IsStated, FitsInFile, TakesFile}
use Rattle.ffv1_hold.specs.Reading.{Refuses}
use Rattle.ffv1_hold.specs.FileFaults.{MayTake, IsFileReel, IsPartOfFile, IsHoldingText, FileIsWhole, FileShows, IsOutside}
use Rattle.ffv1_hold.specs.ReadLimits.{IsReadLimitOf}
use Rattle.ffv1_hold.specs.UnitedHoldings.{AreOfOneRecord, united}

-- which files are read, and what both inputs have left, before and after
pub record Inputs : Type 0 where
  pub recordings : Recordings
  pub left_old : Option (List ℕ)
  pub left_new : Option (List ℕ)
  pub right_old : Option (List ℕ)
  pub right_new : Option (List ℕ)

-- the same, by the logs of both
abbrev pub inputs_read : Recordings → (left_old left_new right_old right_new : ReadLog) → Inputs
inputs_read recordings left_old left_new right_old right_new = record {
  recordings = recordings;
  left_old = left_old.remaining;
  left_new = left_new.remaining;
  right_old = right_old.remaining;
  right_new = right_new.remaining;
}

-- ---- inputs that are texts

-- the input is the file of the holding, of this version
pub record IsFileOf (input : Option (List ℕ)) (v : Version) (h : Contents) : Type 0 where
  pub well_formed : IsHolding h
  pub fits : FitsInFile v h
  pub text : input ≡ Some (file_text v h)

-- the input is the file of the holding, if one is given
abbrev pub IsFileOfSome : Option (List ℕ) → Option Contents → Type 0
IsFileOfSome input None = Unit {0}
IsFileOfSome input (Some h) = (v : Version) × IsFileOf input v h

-- the input was read to its end, and was a file of the holding
pub record ReadsAll (old new : Option (List ℕ)) (h : Contents) : Type 0 where
  pub well_formed : IsHolding h
  pub file : TakesFile old new h
  pub at_end : IsAtEnd new

-- both inputs were read to their ends, and were files of these holdings of one record and size
pub record ReadsBoth (i : Inputs) (left right : Contents) : Type 0 where
  pub left_read : ReadsAll i.left_old i.left_new left
  pub right_read : ReadsAll i.right_old i.right_new right
  pub same : AreOfOneRecord left.reel right.reel

-- they were, and the text of the union was written
pub record WritesUnion (i : Inputs) (old new : Option (List ℕ)) : Type 0 where
  pub left : Contents
  pub right : Contents
  pub read : ReadsBoth i left right
  pub left_taken : MayTake i.recordings left.reel
  pub right_taken : MayTake i.recordings right.reel
  pub fits : FitsInFile Second (united left right)
  pub written : Appends old new (holding_text (united left right))

-- what is returned for two texts of one record and size whose union is this
abbrev pub ReturnsUnion : Contents → Result (Unit {0}) HoldFileFault → Type 0
ReturnsUnion union (Ok _) = Unit {0}
ReturnsUnion union (Err f) = IsOutside f ⊎ ((f ≡ faults.Write) ⊎ ((f ≡ faults.TooLong) × (file_limit < length (holding_text union))))

-- ---- heads

-- both heads were read, and nothing after them, and they are of two records or sizes
pub record ReadsOtherHeads (i : Inputs) : Type 0 where
  pub left : Reel
  pub right : Reel
  pub left_is : IsFileReel i.recordings left
  pub right_is : IsFileReel i.recordings right
  pub left_version : Version
  pub right_version : Version
  pub left_has : HasFileVersion left_version left.rules.is_profile
  pub right_has : HasFileVersion right_version right.rules.is_profile
  pub left_taken : Consumes i.left_old i.left_new (head_text left_version left)
  pub right_taken : Consumes i.right_old i.right_new (head_text right_version right)
  pub other : ¬ AreOfOneRecord left right

-- the input begins with a head of the reel, which is one of a file that is read
pub record BeginsWithHead (recordings : Recordings) (input : Option (List ℕ)) (r : Reel) : Type 0 where
  pub is : IsFileReel recordings r
  pub version : Version
  pub has : HasFileVersion version r.rules.is_profile
  pub rest : List ℕ
  pub split : input ≡ Some (head_text version r ++ rest)

-- what is returned for inputs that begin with heads of two records or sizes
abbrev pub ReturnsOther : Result (Unit {0}) HoldFileFault → Type 0
ReturnsOther (Ok _) = ⊥
ReturnsOther (Err f) = IsOutside f ⊎ (f ≡ faults.OtherReel)

-- ---- entries so far

-- The head and the entries of this holding were read, and perhaps more after them.
pub record ReadsPart (old new : Option (List ℕ)) (h : Contents) : Type 0 where
  pub well_formed : IsHolding h
  pub record' : length h.reel.config ≤ record_limit
  pub version : Version
  pub stated : IsStated version h
  pub more : List ℕ
  pub taken : Consumes old new (begun_text version h ++ more)

-- so far these of one record and size were read of both inputs
pub record ReadsSoFar (i : Inputs) (left right : Contents) : Type 0 where
  pub left_read : ReadsPart i.left_old i.left_new left
  pub right_read : ReadsPart i.right_old i.right_new right
  pub same : AreOfOneRecord left.reel right.reel

-- The head and the entries so far, each once, pass the limit.
pub record EntriesPass (i : Inputs) : Type 0 where
  pub left : Contents
  pub right : Contents
  pub read : ReadsSoFar i left right
  pub over : file_limit < length (begun_text Second (united left right))

-- The inputs were read as texts of one record and size, and the text of their union passes the limit.
pub record UnionPasses (i : Inputs) : Type 0 where
  pub left : Contents
  pub right : Contents
  pub read : ReadsBoth i left right
  pub over : file_limit < length (holding_text (united left right))

-- ---- refusals

-- the fault of an input, as `read_holding` returns it
abbrev pub InputRefuses : Recordings → Option (List ℕ) → Option (List ℕ) → HoldFileFault → Type 0
InputRefuses recordings old new f = Refuses (IsPartOfFile recordings) (FileIsWhole recordings) (FileShows recordings) old new 0 f

-- What was taken of an input shows no fault: it is unfinished, or a text of a holding.
pub record ShowsNoFault (recordings : Recordings) (old new : Option (List ℕ)) : Type 0 where
  pub seen : List ℕ
  pub taken : Consumes old new seen
  pub well_formed : IsPartOfFile recordings seen ⊎ IsHoldingText recordings seen

-- one input is refused, and what was taken of the other shows no fault
abbrev pub OneRefuses : Inputs → HoldFileFault → Type 0
OneRefuses i f = (InputRefuses i.recordings i.left_old i.left_new f × ShowsNoFault i.recordings i.right_old i.right_new)
    ⊎ (InputRefuses i.recordings i.right_old i.right_new f × ShowsNoFault i.recordings i.left_old i.left_new)

-- neither shows a fault, and the fault is of both together, or of the sink
abbrev pub BothRefuse : Inputs → HoldFileFault → Type 0
BothRefuse i faults.Write = ShowsNoFault i.recordings i.left_old i.left_new × ShowsNoFault i.recordings i.right_old i.right_new
BothRefuse i faults.OtherReel = ReadsOtherHeads i
BothRefuse i faults.TooLong =
    (EntriesPass i × (ShowsNoFault i.recordings i.left_old i.left_new × ShowsNoFault i.recordings i.right_old i.right_new)) ⊎ UnionPasses i
BothRefuse i _ = ⊥

-- what a fault says of the bytes that were taken of the inputs
abbrev pub MergeRefuses : Inputs → HoldFileFault → Type 0
MergeRefuses i f = OneRefuses i f ⊎ BothRefuse i f

-- ---- what was written

-- the input, if its bytes are given, begins with these
abbrev pub StreamBegins : Option (List ℕ) → List ℕ → Type 0
StreamBegins None bytes = Unit {0}
StreamBegins (Some input) bytes = (rest : List ℕ) × (input ≡ bytes ++ rest)

-- The head of the left input is judged first: the left one is refused, or begins with a head.
abbrev pub LeftRefusesFirst : Inputs → HoldFileFault → Type 0
LeftRefusesFirst i f = InputRefuses i.recordings i.left_old i.left_new f
    ⊎ ((v : Version) × (r : Reel) × IsFileReel i.recordings r × StreamBegins i.left_old (head_text v r))

-- The input begins with the head and the entries of this holding.
pub record BeginsWithPart (input : Option (List ℕ)) (h : Contents) : Type 0 where
  pub well_formed : IsHolding h
  pub record' : length h.reel.config ≤ record_limit
  pub version : Version
  pub stated : IsStated version h
  pub begins : StreamBegins input (begun_text version h)

-- The head and whole entries were written, each once, of those that both inputs begin with: no end tag, and no part of an entry.
pub record WritesEntries (i : Inputs) (old new : Option (List ℕ)) : Type 0 where
  pub left : Contents
  pub right : Contents
  pub left_begins : BeginsWithPart i.left_old left
  pub right_begins : BeginsWithPart i.right_old right
  pub same : AreOfOneRecord left.reel right.reel
  pub written : Appends old new (begun_text Second (united left right))

-- no end tag: nothing was written, or the head and whole entries
abbrev pub WritesNoEnd : Inputs → Option (List ℕ) → Option (List ℕ) → Type 0
WritesNoEnd i old new = Appends old new [] ⊎ WritesEntries i old new

-- A front of the text of the union of what was read so far was written.
pub record WritesFrontSoFar (i : Inputs) (old new : Option (List ℕ)) : Type 0 where
  pub left : Contents
  pub right : Contents
  pub read : ReadsSoFar i left right
  pub front : WritesFront old new (holding_text (united left right))

-- no more bytes than these were written
pub record WritesAtMost (old new : Option (List ℕ)) (most : ℕ) : Type 0 where
  pub done : List ℕ
  pub written : Appends old new done
  pub few : length done ≤ most

-- The bytes `done` were written, and no more was taken of the holding's text than up to its read_limit over them, with the other holding's
-- digests.
pub record StaysInReadLimit (v : Version) (h : Contents) (other : Option Contents) (input_old input_new old new : Option (List ℕ)) : Type 0 where
  pub done : List ℕ
  pub written : Appends old new done
  pub seen : List ℕ
  pub taken : Consumes input_old input_new seen
  pub within : (read_limit : ℕ) → IsReadLimitOf v h other done read_limit → length seen ≤ read_limit
