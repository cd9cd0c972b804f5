-- What the command `join` makes and prints: the union of holding files, and a line for each file.
use Rattle.std.specs.Prelude.{ℕ, ◌≡◌, suc, ◌+◌, ◌-◌, ◌<◌, ◌++◌, ◌⊎◌, List, [], ◌∷◌, length, map, take, Option, slice_index_or, None, Result, Ok, Err, codes}
use Rattle.std.specs.Fmt.{decimal}
use Rattle.std.specs.Io.KnownBytes.{Appends}
use Rattle.ffv1_holding.specs.Sets as set
use Rattle.ffv1_holding.specs.Contents.{Contents, IsSameReel, joined}
use Rattle.ffv1_holding.specs.Joins.{joined_all, AreJoinable}
use Rattle.ffv1_holding.specs.declared.recordings.Recordings.{Recordings}
use Rattle.ffv1_hold.specs.HoldingText.{holding_text}
use Rattle.ffv1_devices.specs.Logs.{ReadLog, WriteLog}
use Rattle.ffv1_holding.specs.declared.fault.HoldFault.TheVariants as holds
use Rattle.ffv1_commands.specs.Devices.{WriteStops, BothKept}
use Rattle.ffv1_commands.specs.InTurn.{AreKeptFrom, ReadsAlone, WentAt}
use Rattle.ffv1_commands.specs.TakenFrames.{IsFiled}
use Rattle.ffv1_commands.specs.Holdings.{IsTakenFile, IsSavedFile, IsHoldingFault, IsFileFault, HoldingStops, ReadsTaken, IsUnheld, IsMade, MadeBreaks}
use Rattle.ffv1_commands.specs.declared.fault.CliFault.{CliFault}
use Rattle.ffv1_commands.specs.declared.fault.CliFault.TheVariants as faults
use Rattle.ffv1_commands.specs.declared.path.CommandPath.{CommandPath}
use Rattle.ffv1_commands.specs.declared.path.CommandPath.TheVariants as paths

-- the number of a file, and how many of its slices are new
abbrev pub file_line : (number new : ℕ) → List ℕ
file_line number new = codes "file " ++ decimal number ++ codes " new " ++ decimal new ++ codes "\n"

-- the line of the file of this number, which is joined into a holding
unfoldable pub line_of_join : ℕ → Contents → Contents → List ℕ
line_of_join number whole other = file_line number (set.size (joined whole other).slices - set.size whole.slices)

-- the lines of files from this number on, which are joined into a holding
abbrev pub lines_from : ℕ → Contents → List Contents → List ℕ
lines_from number whole [] = []
lines_from number whole (other ∷ others) = line_of_join number whole other ++ lines_from (number + 1) (joined whole other) others

-- a line for each file; all slices of the first are new
abbrev pub join_text : Contents → List Contents → List ℕ
join_text first others = file_line 1 (set.size first.slices) ++ lines_from 2 first others

-- Inputs are the files of these holdings, as they are taken.
abbrev pub AreTakenFiles : Recordings → List (Option (List ℕ)) → List Contents → Type 0
AreTakenFiles recordings [] [] = Unit {0}
AreTakenFiles recordings [] (h ∷ hs) = ⊥
AreTakenFiles recordings (input ∷ inputs) [] = ⊥
AreTakenFiles recordings (input ∷ inputs) (h ∷ hs) = IsTakenFile recordings input h × AreTakenFiles recordings inputs hs

-- The holdings of the files, as they are taken, were joined, and this text has a line for each.
pub record JoinsEach (recordings : Recordings) (inputs : List (Option (List ℕ))) (whole : Contents) (text : List ℕ) : Type 0 where
  pub first : Contents
  pub others : List Contents
  pub files : AreTakenFiles recordings inputs (first ∷ others)
  pub joinable : AreJoinable IsSameReel joined first others
  pub held : whole ≡ joined_all joined first others
  pub lines : text ≡ join_text first others

-- The file of the union was written, and then the lines were printed.
pub record JoinsFiles (recordings : Recordings) (inputs : List (Option (List ℕ))) (out_before out_after printed_before printed_after : Option (List ℕ)) : Type 0 where
  pub whole : Contents
  pub text : List ℕ
  pub each : JoinsEach recordings inputs whole text
  pub file : List ℕ
  pub saved : IsSavedFile whole file
  pub written : Appends out_before out_after file
  pub printed : Appends printed_before printed_after text

-- The files before one were joined.
abbrev pub AreJoinedBefore : Recordings → List (Option (List ℕ)) → ℕ → Type 0
AreJoinedBefore recordings inputs i = (i ≡ 0) ⊎ ((whole : Contents) × (text : List ℕ) × JoinsEach recordings (take i inputs) whole text)

-- why one of the files gave no holding, or one of another record or size than the first; those before it were joined
abbrev pub IsFaultOfFiles : Recordings → List (Option (List ℕ)) → CliFault → Type 0
IsFaultOfFiles recordings inputs (faults.Hold fault) =
    (fault ≡ holds.OtherReel)
    × ((i : ℕ) × (i < length inputs) × AreJoinedBefore recordings inputs i × ((first other : Contents) × IsTakenFile recordings (slice_index_or inputs 0 None) first
    × IsTakenFile recordings (slice_index_or inputs i None) other × (¬ IsSameReel first other)))
IsFaultOfFiles recordings inputs faults.Memory = Unit {0}
IsFaultOfFiles recordings inputs fault = (i : ℕ) × (i < length inputs) × AreJoinedBefore recordings inputs i × IsHoldingFault recordings (paths.Hold i) (slice_index_or inputs i None) fault

-- What a fault says, and what it left in the outputs where writing failed: that of a file, that the union has no file, or a front of
-- what is written.
abbrev pub JoinStops : Recordings → List (Option (List ℕ)) → (out_before out_after printed_before printed_after : Option (List ℕ)) → CliFault → Type 0
JoinStops recordings inputs out_before out_after printed_before printed_after (faults.HoldFile fault) =
    IsFaultOfFiles recordings inputs (faults.HoldFile fault) ⊎ ((whole : Contents) × (text : List ℕ) × JoinsEach recordings inputs whole text
    × IsFileFault whole (faults.HoldFile fault))
JoinStops recordings inputs out_before out_after printed_before printed_after (faults.Write path) =
    (whole : Contents) × (text : List ℕ) × JoinsEach recordings inputs whole text
    × ((filed : Contents) × IsFiled whole filed × WriteStops (holding_text filed) text out_before out_after printed_before printed_after (faults.Write path))
JoinStops recordings inputs out_before out_after printed_before printed_after faults.Memory = Unit {0}
JoinStops recordings inputs out_before out_after printed_before printed_after fault = IsFaultOfFiles recordings inputs fault

-- why the file at this place gave no holding, or one of another record or size than the first
abbrev pub IsFaultOfInput : Recordings → List (Option (List ℕ)) → ℕ → CliFault → Type 0
IsFaultOfInput recordings inputs i (faults.Hold fault) =
    (fault ≡ holds.OtherReel) × ((first other : Contents) × IsTakenFile recordings (slice_index_or inputs 0 None) first
    × IsTakenFile recordings (slice_index_or inputs i None) other × (¬ IsSameReel first other))
IsFaultOfInput recordings inputs i fault = IsHoldingFault recordings (paths.Hold i) (slice_index_or inputs i None) fault

-- One of the files was not joined; those before it were, and those after it are as they were. Old and new are those after the first.
abbrev pub StopsAtPlace : {R : Type 0} → Recordings → List (Option (List ℕ)) → (old new : List R) → CliFault → Type 0
StopsAtPlace recordings inputs old new fault =
    (i : ℕ) × (i < length inputs) × AreJoinedBefore recordings inputs i × IsFaultOfInput recordings inputs i fault × AreKeptFrom i old new

-- What a fault of a file leaves: the files after it, as they were. That the union has no file is a fault of none.
abbrev pub LaterFilesKept : {R : Type 0} → Recordings → List (Option (List ℕ)) → (old new : List R) → CliFault → Type 0
LaterFilesKept recordings inputs old new (faults.Read (paths.Hold place)) = AreKeptFrom place old new
LaterFilesKept recordings inputs old new (faults.Hold fault) = StopsAtPlace recordings inputs old new (faults.Hold fault)
LaterFilesKept recordings inputs old new (faults.HoldFile fault) =
    StopsAtPlace recordings inputs old new (faults.HoldFile fault)
    ⊎ ((whole : Contents) × (text : List ℕ) × JoinsEach recordings inputs whole text × IsFileFault whole (faults.HoldFile fault))
LaterFilesKept recordings inputs old new _ = Unit {0}

-- ---- over the logs of the devices

-- the input was read as the file of this holding, as it is taken, by a source of its own
abbrev pub IsReadAsFile : Recordings → Option (List ℕ) → Contents → Type 0
IsReadAsFile recordings input h = ReadsAlone (λ old new. ReadsTaken recordings old new h) input

-- so was each of the inputs
abbrev pub AreReadAsFiles : Recordings → List (Option (List ℕ)) → List Contents → Type 0
AreReadAsFiles recordings [] [] = Unit {0}
AreReadAsFiles recordings [] (h ∷ hs) = ⊥
AreReadAsFiles recordings (input ∷ inputs) [] = ⊥
AreReadAsFiles recordings (input ∷ inputs) (h ∷ hs) = IsReadAsFile recordings input h × AreReadAsFiles recordings inputs hs

-- a file was not joined, since it was not read, or since memory ran out once it was
abbrev pub FileBreaks : Recordings → CommandPath → CliFault → (old new : ReadLog) → Type 0
FileBreaks recordings path fault old new = HoldingStops recordings path fault old new ⊎ ((fault ≡ faults.Memory) × ((h : Contents) × ReadsTaken recordings old new h))

-- a file was not joined into a holding: for that, or since it is of another record or size
abbrev pub JoinBreaks : Recordings → CommandPath → Contents → CliFault → (old new : ReadLog) → Type 0
JoinBreaks recordings path whole fault old new =
    FileBreaks recordings path fault old new
    ⊎ ((fault ≡ faults.Hold holds.OtherReel) × ((other : Contents) × ReadsTaken recordings old new other × (¬ IsSameReel whole other)))

-- The first file was read, and each other one by a source of its own; their holdings were joined, and this text has a line for each.
pub record JoinsAll (recordings : Recordings) (inputs : List (Option (List ℕ))) (old new : ReadLog) (whole : Contents) (text : List ℕ) : Type 0 where
  pub each : JoinsEach recordings (old.remaining ∷ inputs) whole text
  pub first : ReadsTaken recordings old new each.first
  pub others : AreReadAsFiles recordings inputs each.others

-- How one of the files was not joined: the first was not, and the others are as they were; or one of those was not, those before it were,
-- and those after it are as they were.
abbrev pub StopsAtFile : {R : Type 0} → Recordings → (R → Option (List ℕ)) → (first_old first_new : ReadLog) → (old new : List R) → CliFault → Type 0
StopsAtFile recordings reports first_old first_new old new fault =
    (FileBreaks recordings (paths.Hold 0) fault first_old first_new × (new ≡ old))
    ⊎ ((i : ℕ) × (i < length old)
    × ((whole : Contents) × (text : List ℕ) × JoinsAll recordings (take i (map reports old)) first_old first_new whole text
    × ReadsAlone (JoinBreaks recordings (paths.Hold (i + 1)) whole fault) (slice_index_or (map reports old) i None))
    × AreKeptFrom (i + 1) old new)

-- The files were joined, and the file of their union and the lines were written; or one was not joined, and both outputs are as they were;
-- or all were, and the file and the lines were not written whole.
abbrev pub ReportsJoin : {T R : Type 0} → Recordings → Result T CliFault → (R → Option (List ℕ)) → (first_old first_new : ReadLog) → (others_old others_new : List R)
    → (out_old out_new output_old output_new : WriteLog) → Type 0
ReportsJoin recordings (Ok x) reports first_old first_new others_old others_new out_old out_new output_old output_new =
    (whole : Contents) × (text : List ℕ) × JoinsAll recordings (map reports others_old) first_old first_new whole text
    × IsMade whole text out_old out_new output_old output_new
ReportsJoin recordings (Err fault) reports first_old first_new others_old others_new out_old out_new output_old output_new =
    (StopsAtFile recordings reports first_old first_new others_old others_new fault × BothKept out_old out_new output_old output_new)
    ⊎ ((whole : Contents) × (text : List ℕ) × JoinsAll recordings (map reports others_old) first_old first_new whole text
    × MadeBreaks whole text out_old out_new output_old output_new fault)

-- What a fault rests on that says that a file after the first was not read: its source went so.
abbrev pub IfFileUnread : {X : Type 0} → (X → X → Type 0) → (old new : List X) → CliFault → Type 0
IfFileUnread Went old new (faults.Read (paths.Hold (suc place))) = WentAt Went place old new
IfFileUnread Went old new _ = Unit {0}

-- its source was given up
abbrev pub IfLaterUnread : Recordings → (old new : List ReadLog) → CliFault → Type 0
IfLaterUnread recordings old new = IfFileUnread (IsUnheld recordings) old new
