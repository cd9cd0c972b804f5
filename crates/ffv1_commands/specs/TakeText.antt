-- What the command `take` makes and prints: the holding of all copies, and a line for each copy.
use Rattle.std.specs.Prelude.{ℕ, ◌≡◌, ◌+◌, ◌-◌, ◌<◌, ◌++◌, ◌⊎◌, Bool, true, List, [], ◌∷◌, length, map, take, Option, slice_index_or, None, Result, Ok, Err, codes, if◌then◌else◌}
use Rattle.std.specs.List.{list_all}
use Rattle.std.specs.Fmt.{decimal}
use Rattle.std.specs.Io.KnownBytes.{Appends}
use Rattle.ffv1_slice.specs.Walk.{links_of}
use Rattle.ffv1_slice.specs.Slices.{found_slices}
use Rattle.ffv1_holding.specs.Sets as set
use Rattle.ffv1_holding.specs.Reels.{Reel, FirstRecordFault}
use Rattle.ffv1_holding.specs.Contents.{Contents, holding_of}
use Rattle.ffv1_holding.specs.TileOrder.{is_in_tile_order}
use Rattle.ffv1_holding.specs.declared.recordings.Recordings.{Recordings}
use Rattle.ffv1_holding.specs.declared.recordings.Recordings.TheVariants.{Profile, Any}
use Rattle.ffv1_hold.specs.HoldingText.{holding_text}
use Rattle.ffv1_devices.specs.Logs.{ReadLog, WriteLog}
use Rattle.ffv1_commands.specs.Devices.{IsWholeInput, AreWholeInputs, WriteStops, IsCopyFault, CopyStops, BothKept}
use Rattle.ffv1_commands.specs.InTurn.{AreKeptFrom, AreTaken, StopsAtCopy}
use Rattle.ffv1_commands.specs.TakenFrames.{IsFiled}
use Rattle.ffv1_commands.specs.Holdings.{IsSavedFile, IsFileFault, IsMade, MadeBreaks}
use Rattle.ffv1_commands.specs.RecordInputs.{IsReelInput, TakesReel, ReelStops}
use Rattle.ffv1_commands.specs.declared.fault.CliFault.{CliFault}
use Rattle.ffv1_commands.specs.declared.fault.CliFault.TheVariants as faults
use Rattle.ffv1_commands.specs.declared.path.CommandPath.TheVariants as paths

-- Of copies of any recording it is reported whether their slices stand in the order of their tiles; of the profile's it is not.
abbrev pub order_reported : Recordings → (in_order : Bool) → Bool
order_reported Profile in_order = true
order_reported Any in_order = in_order

abbrev pub is_reported_in_order : Recordings → Reel → List ℕ → Bool
is_reported_in_order recordings reel copy = order_reported recordings (is_in_tile_order reel.rules copy)

abbrev pub are_reported_in_order : Recordings → Reel → List (List ℕ) → Bool
are_reported_in_order recordings reel copies = list_all (is_reported_in_order recordings reel) copies

-- said at the end of a line
abbrev pub order_word : Bool → List ℕ
order_word in_order = if in_order then [] else codes " unordered"

-- a copy's number, its links, those that are slices, how many of these are new, and whether they stand in the order of their tiles
abbrev pub copy_line : (number links slices new : ℕ) → (in_order : Bool) → List ℕ
copy_line number links slices new in_order =
    codes "copy " ++ decimal number ++ codes " links " ++ decimal links ++ codes " slices " ++ decimal slices ++ codes " new " ++ decimal new
    ++ order_word in_order ++ codes "\n"

-- how many slices are held of copies
abbrev pub held_of : Reel → List (List ℕ) → ℕ
held_of reel copies = set.size (holding_of reel copies).slices

-- the line of a copy that is taken after others
unfoldable pub line_after : Recordings → Reel → List (List ℕ) → List ℕ → List ℕ
line_after recordings reel before copy =
    copy_line (length before + 1) (length (links_of copy)) (length (found_slices reel.rules copy)) (held_of reel (before ++ copy ∷ []) - held_of reel before)
    (is_reported_in_order recordings reel copy)

-- the lines of copies that are taken after others
abbrev pub lines_after : Recordings → Reel → List (List ℕ) → List (List ℕ) → List ℕ
lines_after recordings reel before [] = []
lines_after recordings reel before (copy ∷ copies) = line_after recordings reel before copy ++ lines_after recordings reel (before ++ copy ∷ []) copies

-- a line for each copy
abbrev pub take_text : Recordings → Reel → List (List ℕ) → List ℕ
take_text recordings reel copies = lines_after recordings reel [] copies

-- The copies were read, each by a source of its own, and taken into an empty holding, this text has a line for each, and `in_order` says
-- whether all are in order.
pub record TakesEach (recordings : Recordings) (inputs : List (Option (List ℕ))) (reel : Reel) (h : Contents) (text : List ℕ) (in_order : Bool) : Type 0 where
  pub copies : List (List ℕ)
  pub read : AreTaken inputs copies
  pub held : h ≡ holding_of reel copies
  pub lines : text ≡ take_text recordings reel copies
  pub order : in_order ≡ are_reported_in_order recordings reel copies

-- The file of the holding of all copies was written, then the lines were printed, and it was returned whether all copies are in order.
pub record TakesCopies (recordings : Recordings) (record' : Option (List ℕ)) (width height : ℕ) (inputs : List (Option (List ℕ)))
    (out_before out_after printed_before printed_after : Option (List ℕ)) (in_order : Bool) : Type 0 where
  pub reel : Reel
  pub of_record : IsReelInput recordings record' width height reel
  pub copies : List (List ℕ)
  pub read : AreWholeInputs inputs copies
  pub file : List ℕ
  pub saved : IsSavedFile (holding_of reel copies) file
  pub written : Appends out_before out_after file
  pub printed : Appends printed_before printed_after (take_text recordings reel copies)
  pub order : in_order ≡ are_reported_in_order recordings reel copies

-- why the copy at this place was not taken; those before it were read
abbrev pub IsFaultAt : List (Option (List ℕ)) → ℕ → CliFault → Type 0
IsFaultAt inputs i fault =
    (i < length inputs) × ((before : List (List ℕ)) × AreWholeInputs (take i inputs) before)
    × IsCopyFault (paths.Copy i) (slice_index_or inputs i None) fault

-- why one of the copies was not taken
abbrev pub IsFaultOfInputs : List (Option (List ℕ)) → CliFault → Type 0
IsFaultOfInputs inputs fault = (i : ℕ) × IsFaultAt inputs i fault

-- The same, and the copies after it are as they were.
abbrev pub FaultKeepsLater : {C : Type 0} → (C → Option (List ℕ)) → (old new : List C) → CliFault → Type 0
FaultKeepsLater reports old new fault = (i : ℕ) × IsFaultAt (map reports old) i fault × AreKeptFrom (i + 1) old new

-- What a fault of a copy, which was not read or is too long, leaves: the copies after it, as they were.
abbrev pub LaterKept : {C : Type 0} → (C → Option (List ℕ)) → (old new : List C) → CliFault → Type 0
LaterKept reports old new (faults.Read (paths.Copy place)) = AreKeptFrom (place + 1) old new
LaterKept reports old new (faults.Hold fault) = FaultKeepsLater reports old new (faults.Hold fault)
LaterKept reports old new _ = Unit {0}

-- What a fault says, and what it left in the outputs where writing failed: the record's fault, that of a copy, that the holding
-- of the copies has no file, or a front of what is written.
abbrev pub TakeStops : Recordings → Option (List ℕ) → ℕ → ℕ → List (Option (List ℕ)) → (out_before out_after printed_before printed_after : Option (List ℕ)) → CliFault
    → Type 0
TakeStops recordings record' width height inputs out_before out_after printed_before printed_after (faults.Read path) =
    (path ≡ paths.Record) ⊎ ((reel : Reel) × IsReelInput recordings record' width height reel × IsFaultOfInputs inputs (faults.Read path))
TakeStops recordings record' width height inputs out_before out_after printed_before printed_after (faults.Setup fault) =
    (config : List ℕ) × IsWholeInput record' config × FirstRecordFault recordings config width height fault
TakeStops recordings record' width height inputs out_before out_after printed_before printed_after (faults.Hold fault) =
    (reel : Reel) × IsReelInput recordings record' width height reel × IsFaultOfInputs inputs (faults.Hold fault)
TakeStops recordings record' width height inputs out_before out_after printed_before printed_after (faults.HoldFile fault) =
    (reel : Reel) × (copies : List (List ℕ)) × IsReelInput recordings record' width height reel × AreWholeInputs inputs copies
    × IsFileFault (holding_of reel copies) (faults.HoldFile fault)
TakeStops recordings record' width height inputs out_before out_after printed_before printed_after (faults.Write path) =
    (reel : Reel) × (copies : List (List ℕ)) × IsReelInput recordings record' width height reel × AreWholeInputs inputs copies
    × ((filed : Contents) × IsFiled (holding_of reel copies) filed
    × WriteStops (holding_text filed) (take_text recordings reel copies) out_before out_after printed_before printed_after (faults.Write path))
TakeStops recordings record' width height inputs out_before out_after printed_before printed_after faults.Memory = Unit {0}
TakeStops recordings record' width height inputs out_before out_after printed_before printed_after _ = ⊥

-- ---- over the logs of the devices

-- The record was read, and the copies were taken, and this text has a line for each.
pub record TakesAll (recordings : Recordings) (width height : ℕ) (inputs : List (Option (List ℕ))) (old new : ReadLog) (held : Contents) (text : List ℕ)
    (in_order : Bool) : Type 0 where
  pub reel : Reel
  pub of_record : TakesReel recordings width height old new reel
  pub each : TakesEach recordings inputs reel held text in_order

-- The record and the copies were taken, and the file and the lines were written; or the record gave no reel, and all else is as it was; or
-- a copy was not taken, and those after it and both outputs are as they were; or all were taken, and the file and the lines were not
-- written whole.
abbrev pub ReportsTake : {C : Type 0} → Recordings → Result Bool CliFault → (C → Option (List ℕ)) → (width height : ℕ) → (record_old record_new : ReadLog)
    → (copies_old copies_new : List C) → (out_old out_new output_old output_new : WriteLog) → Type 0
ReportsTake recordings (Ok in_order) reports width height record_old record_new copies_old copies_new out_old out_new output_old output_new =
    (held : Contents) × (text : List ℕ) × TakesAll recordings width height (map reports copies_old) record_old record_new held text in_order
    × IsMade held text out_old out_new output_old output_new
ReportsTake recordings (Err fault) reports width height record_old record_new copies_old copies_new out_old out_new output_old output_new =
    (ReelStops recordings width height record_old record_new fault × (copies_new ≡ copies_old) × BothKept out_old out_new output_old output_new)
    ⊎ ((reel : Reel) × TakesReel recordings width height record_old record_new reel × StopsAtCopy CopyStops reports copies_old copies_new fault
    × BothKept out_old out_new output_old output_new)
    ⊎ ((held : Contents) × (text : List ℕ) × (in_order : Bool) × TakesAll recordings width height (map reports copies_old) record_old record_new held text in_order
    × MadeBreaks held text out_old out_new output_old output_new fault)
