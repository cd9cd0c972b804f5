-- What the command `merge` makes: the holding file of the union of two holding files, which are read as streams.
use Rattle.std.specs.Prelude.{ℕ, ◌≡◌, ◌<◌, ◌⊎◌, List, [], length, Option, IfSome, Result, Ok, Err}
use Rattle.std.specs.Io.KnownBytes.{Appends}
use Rattle.ffv1_bits.specs.Limits.{file_limit}
use Rattle.ffv1_holding.specs.declared.recordings.Recordings.{Recordings}
use Rattle.ffv1_devices.specs.Writing.{WritesFront}
use Rattle.ffv1_holding.specs.Reels.{Reel}
use Rattle.ffv1_holding.specs.Contents.{Contents}
use Rattle.ffv1_hold.specs.UnitedHoldings.{AreOfOneRecord, united}
use Rattle.ffv1_hold.specs.HoldingText.{head_text, begun_text, holding_text}
use Rattle.ffv1_hold.specs.FileFaults.{IsFileReel, IsFaultOf}
use Rattle.ffv1_hold.specs.MergedStreams.{StreamBegins, BeginsWithPart, MergeRefuses, LeftRefusesFirst, WritesUnion, WritesNoEnd, WritesFrontSoFar}
use Rattle.ffv1_hold.specs.JoinedStreams.{inputs_of}
use Rattle.ffv1_hold.specs.MergeLogs.{Devices, AllGoOn, OneStops}
use Rattle.ffv1_hold.specs.declared.version.Version.{Version}
use Rattle.ffv1_hold.specs.declared.version.Version.TheVariants.{Second}
use Rattle.ffv1_hold.specs.declared.file_fault.HoldFileFault.{HoldFileFault}
use Rattle.ffv1_hold.specs.declared.file_fault.HoldFileFault.TheVariants as files
use Rattle.ffv1_commands.specs.Fault.{of_merge}
use Rattle.ffv1_commands.specs.Holdings.{IsHoldingFile, HasFile}
use Rattle.ffv1_commands.specs.declared.fault.CliFault.{CliFault}
use Rattle.ffv1_commands.specs.declared.fault.CliFault.TheVariants as faults
use Rattle.ffv1_commands.specs.declared.path.CommandPath.TheVariants as paths

-- Both inputs are the files of holdings of one record and size, and the file of their union was written.
pub record MergesFiles (recordings : Recordings) (left right out_before out_after : Option (List ℕ)) : Type 0 where
  pub one : Contents
  pub other : Contents
  pub left_file : IsHoldingFile recordings left one
  pub right_file : IsHoldingFile recordings right other
  pub same : AreOfOneRecord one.reel other.reel
  pub has_file : HasFile (united one other)
  pub written : Appends out_before out_after (holding_text (united one other))

-- The inputs, if their bytes are known, begin with the heads and the entries of two holdings of one record and size, and this is their union.
pub record BeginsUnion (left right : Option (List ℕ)) (union : Contents) : Type 0 where
  pub one : Contents
  pub other : Contents
  pub left_begins : BeginsWithPart left one
  pub right_begins : BeginsWithPart right other
  pub same : AreOfOneRecord one.reel other.reel
  pub is : union ≡ united one other

-- The inputs, if their bytes are known, begin with heads of two records or sizes.
pub record HeadsDiffer (recordings : Recordings) (left right : Option (List ℕ)) : Type 0 where
  pub one : Reel
  pub other : Reel
  pub one_is : IsFileReel recordings one
  pub other_is : IsFileReel recordings other
  pub left_version : Version
  pub right_version : Version
  pub left_begins : StreamBegins left (head_text left_version one)
  pub right_begins : StreamBegins right (head_text right_version other)
  pub differ : ¬ AreOfOneRecord one other

-- ---- why two files were not merged

-- the fault of one of the inputs
abbrev pub IsFaultOfEither : Recordings → Option (List ℕ) → Option (List ℕ) → HoldFileFault → Type 0
IsFaultOfEither recordings left right fault = IfSome left (λ bytes. IsFaultOf recordings bytes fault) ⊎ IfSome right (λ bytes. IsFaultOf recordings bytes fault)

-- the fault of both together: their heads are of two records or sizes, or the file of what both begin with would pass its limit
abbrev pub IsFaultOfBoth : Recordings → Option (List ℕ) → Option (List ℕ) → HoldFileFault → Type 0
IsFaultOfBoth recordings left right files.OtherReel = HeadsDiffer recordings left right
IsFaultOfBoth recordings left right files.TooLong = (union : Contents) × BeginsUnion left right union × (file_limit < length (holding_text union))
IsFaultOfBoth recordings left right _ = ⊥

-- the head of the left one is judged first: the fault is its own, or it begins with a head
abbrev pub IsLeftFaultFirst : Recordings → (left : Option (List ℕ)) → HoldFileFault → Type 0
IsLeftFaultFirst recordings left fault = IfSome left (λ bytes. IsFaultOf recordings bytes fault)
    ⊎ ((v : Version) × (r : Reel) × IsFileReel recordings r × StreamBegins left (head_text v r))

abbrev pub IsMergeFault : Recordings → Option (List ℕ) → Option (List ℕ) → CliFault → Type 0
IsMergeFault recordings left right (faults.HoldFile fault) =
    (IsFaultOfEither recordings left right fault ⊎ IsFaultOfBoth recordings left right fault) × IsLeftFaultFirst recordings left fault
IsMergeFault recordings left right (faults.Read path) = path ≡ paths.Inputs
IsMergeFault recordings left right (faults.Write path) = path ≡ paths.Out
IsMergeFault recordings left right faults.Memory = Unit {0}
IsMergeFault recordings left right _ = ⊥

-- ---- what a fault left in OUT

-- the head and whole entries of what both begin with, each once, and no end tag
abbrev pub LeavesEntries : (left right out_before out_after : Option (List ℕ)) → Type 0
LeavesEntries left right out_before out_after = Appends out_before out_after []
    ⊎ ((union : Contents) × BeginsUnion left right union × Appends out_before out_after (begun_text Second union))

-- after a failed write a front of the file of what both begin with, and after another fault no end tag
abbrev pub MergeLeaves : (left right out_before out_after : Option (List ℕ)) → CliFault → Type 0
MergeLeaves left right out_before out_after (faults.Write path) = (union : Contents) × BeginsUnion left right union
    × WritesFront out_before out_after (holding_text union)
MergeLeaves left right out_before out_after _ = LeavesEntries left right out_before out_after

-- ---- what the command returns

-- what it returns for the files of two holdings of one record and size whose union is this
abbrev pub ReturnsFiles : Contents → Result (Unit {0}) CliFault → Type 0
ReturnsFiles union (Ok _) = Unit {0}
ReturnsFiles union (Err (faults.Read path)) = Unit {0}
ReturnsFiles union (Err (faults.Write path)) = Unit {0}
ReturnsFiles union (Err faults.Memory) = Unit {0}
ReturnsFiles union (Err (faults.HoldFile fault)) = (fault ≡ files.TooLong) × (file_limit < length (holding_text union))
ReturnsFiles union (Err _) = ⊥

-- what it returns for inputs that begin with heads of two records or sizes
abbrev pub ReturnsOtherHeads : Result (Unit {0}) CliFault → Type 0
ReturnsOtherHeads (Err (faults.HoldFile fault)) = fault ≡ files.OtherReel
ReturnsOtherHeads (Err (faults.Read path)) = Unit {0}
ReturnsOtherHeads (Err faults.Memory) = Unit {0}
ReturnsOtherHeads _ = ⊥

-- ---- over the logs of the devices

-- after a failed write a front of the text of what was read, and after another fault no end tag
abbrev pub LeavesFront : Recordings → HoldFileFault → Devices → Devices → Type 0
LeavesFront recordings files.Write old new = WritesFrontSoFar (inputs_of recordings old new) old.sink.contents new.sink.contents
LeavesFront recordings _ old new = WritesNoEnd (inputs_of recordings old new) old.sink.contents new.sink.contents

-- Joining both files as streams stopped: what was taken of them shows the fault, and only the device that is the fault was given up.
pub record MergeStops (recordings : Recordings) (f : HoldFileFault) (old new : Devices) : Type 0 where
  pub shown : MergeRefuses (inputs_of recordings old new) f
  pub first : LeftRefusesFirst (inputs_of recordings old new) f
  pub leaves : LeavesFront recordings f old new
  pub went : OneStops f old new (0, 0)

-- The file of the union was written; or joining stopped at a fault, which is reported as one of the command.
abbrev pub ReportsMerge : {T : Type 0} → Recordings → Result T CliFault → Devices → Devices → Type 0
ReportsMerge recordings (Ok x) old new =
    WritesUnion (inputs_of recordings old new) old.sink.contents new.sink.contents × AllGoOn old new (0, 0) (file_limit, file_limit)
ReportsMerge recordings (Err fault) old new = (f : HoldFileFault) × (fault ≡ of_merge f) × MergeStops recordings f old new
