-- What the command `splice` makes and prints: the splice of all copies, a line for each of its places from its end, and a line for its front.
use Rattle.std.specs.Prelude.{ℕ, ◌≡◌, ◌+◌, ◌<◌, ◌++◌, ◌↔◌, ◌⊎◌, Bool, IsTrue, List, length, map, take, Option, Result, Ok, Err, codes}
use Rattle.std.specs.List.{flat_map}
use Rattle.std.specs.Io.KnownBytes.{Appends}
use Rattle.ffv1_devices.specs.Logs.{WriteLog, Writes}
use Rattle.ffv1_splice.specs.Splice.{SplicedValue, IsSpliceOf, IsGivenBack}
use Rattle.ffv1_splice.specs.Faults.{IsOfOtherLength}
use Rattle.ffv1_splice.specs.Text.{place_words, front_line}
use Rattle.ffv1_splice.specs.declared.place.Place.{Place}
use Rattle.ffv1_commands.specs.Devices.{AreWholeInputs, WriteStops, FileStops, BothStop, BothKept}
use Rattle.ffv1_commands.specs.InTurn.{AreKeptFrom, AreTaken, StopsAtCopy}
use Rattle.ffv1_commands.specs.declared.fault.CliFault.{CliFault}
use Rattle.ffv1_commands.specs.declared.fault.CliFault.TheVariants as faults
use Rattle.ffv1_commands.specs.declared.path.CommandPath.TheVariants as paths

-- where a place lies, and how it stands
abbrev pub standing_line : Place → List ℕ
standing_line place = place_words place ++ codes "\n"

-- a line for each place, and one for the front
abbrev pub splice_text : SplicedValue → List ℕ
splice_text spliced = flat_map standing_line spliced.places ++ front_line spliced.front

-- The splice of all copies was written, and then its lines were printed.
pub record SplicesCopies (inputs : List (Option (List ℕ))) (out_before out_after printed_before printed_after : Option (List ℕ)) (returned : Bool) : Type 0 where
  pub copies : List (List ℕ)
  pub spliced : SplicedValue
  pub read : AreWholeInputs inputs copies
  pub is_splice : IsSpliceOf copies spliced
  pub payload : Appends out_before out_after spliced.payload
  pub printed : Appends printed_before printed_after (splice_text spliced)
  pub given_back : IsTrue returned ↔ IsGivenBack spliced

-- ---- faults

-- The first copy that was not read: all before it were.
pub record IsFirstUnread (inputs : List (Option (List ℕ))) (index : ℕ) : Type 0 where
  pub there : index < length inputs
  pub copies : List (List ℕ)
  pub earlier : AreWholeInputs (take index inputs) copies

-- that not all copies were read, as a fault of the command
abbrev pub IsReadFault : List (Option (List ℕ)) → CliFault → Type 0
IsReadFault inputs (faults.Read path) = (index : ℕ) × IsFirstUnread inputs index × (path ≡ paths.Copy index)
IsReadFault inputs faults.Memory = Unit {0}
IsReadFault inputs _ = ⊥

-- a copy of another length as a fault of the command
abbrev pub IsLengthFault : List (List ℕ) → CliFault → Type 0
IsLengthFault copies (faults.Splice path) = (index : ℕ) × IsOfOtherLength copies index × (path ≡ paths.Copy index)
IsLengthFault copies faults.Memory = Unit {0}
IsLengthFault copies _ = ⊥

-- What a fault says, and what it left in the outputs where writing failed: the first copy that was not read; where all were, the first
-- that is not as long as the first of them; or, where all are as long, a front of what is written.
abbrev pub SpliceStops : List (Option (List ℕ)) → (out_before out_after printed_before printed_after : Option (List ℕ)) → CliFault → Type 0
SpliceStops inputs out_before out_after printed_before printed_after (faults.Read path) = IsReadFault inputs (faults.Read path)
SpliceStops inputs out_before out_after printed_before printed_after (faults.Splice path) =
    (copies : List (List ℕ)) × AreWholeInputs inputs copies × IsLengthFault copies (faults.Splice path)
SpliceStops inputs out_before out_after printed_before printed_after (faults.Write path) =
    (copies : List (List ℕ)) × (spliced : SplicedValue) × AreWholeInputs inputs copies × IsSpliceOf copies spliced
    × WriteStops spliced.payload (splice_text spliced) out_before out_after printed_before printed_after (faults.Write path)
SpliceStops inputs out_before out_after printed_before printed_after faults.Memory = Unit {0}
SpliceStops inputs out_before out_after printed_before printed_after _ = ⊥

-- What a fault of a copy that was not read leaves: the copies after it, as they were.
abbrev pub LaterCopiesKept : {C : Type 0} → (old new : List C) → CliFault → Type 0
LaterCopiesKept old new (faults.Read path) = (index : ℕ) × (path ≡ paths.Copy index) × AreKeptFrom (index + 1) old new
LaterCopiesKept old new _ = Unit {0}

-- ---- over the logs of the devices

-- The splice of the copies and then its lines were written.
pub record WritesSplice (copies : List (List ℕ)) (out_old out_new output_old output_new : WriteLog) (returned : Bool) : Type 0 where
  pub spliced : SplicedValue
  pub is_splice : IsSpliceOf copies spliced
  pub payload : Writes out_old out_new spliced.payload
  pub printed : Writes output_old output_new (splice_text spliced)
  pub given_back : IsTrue returned ↔ IsGivenBack spliced

-- what stopped the command once all copies were read: one of another length, Memory, or writing
abbrev pub SpliceRefuses : List (List ℕ) → (out_old out_new output_old output_new : WriteLog) → CliFault → Type 0
SpliceRefuses copies out_old out_new output_old output_new (faults.Splice path) =
    IsLengthFault copies (faults.Splice path) × BothKept out_old out_new output_old output_new
SpliceRefuses copies out_old out_new output_old output_new faults.Memory = BothKept out_old out_new output_old output_new
SpliceRefuses copies out_old out_new output_old output_new (faults.Write path) =
    (spliced : SplicedValue) × IsSpliceOf copies spliced
    × BothStop (faults.Write path) spliced.payload (splice_text spliced) out_old out_new output_old output_new
SpliceRefuses copies out_old out_new output_old output_new _ = ⊥

-- All copies were read, and their splice was written; or one was not read, and both outputs are as they were; or all were, and the
-- command stopped after that.
abbrev pub ReportsSplice : {C : Type 0} → (C → Option (List ℕ)) → Result Bool CliFault → (copies_old copies_new : List C)
    → (out_old out_new output_old output_new : WriteLog) → Type 0
ReportsSplice remaining (Ok returned) copies_old copies_new out_old out_new output_old output_new =
    (copies : List (List ℕ)) × AreTaken (map remaining copies_old) copies × WritesSplice copies out_old out_new output_old output_new returned
ReportsSplice remaining (Err fault) copies_old copies_new out_old out_new output_old output_new =
    (StopsAtCopy FileStops remaining copies_old copies_new fault × BothKept out_old out_new output_old output_new)
    ⊎ ((copies : List (List ℕ)) × AreTaken (map remaining copies_old) copies × SpliceRefuses copies out_old out_new output_old output_new fault)
