-- What the command `restore` makes and prints: the restored payload, and its length.
use Rattle.std.specs.Prelude.{ℕ, ◌⊎◌, ◌++◌, List, length, Option, Result, Ok, Err, codes}
use Rattle.std.specs.Fmt.{decimal}
use Rattle.std.specs.Io.KnownBytes.{Appends}
use Rattle.ffv1_holding.specs.declared.recordings.Recordings.{Recordings}
use Rattle.ffv1_devices.specs.Logs.{ReadLog, WriteLog, Writes}
use Rattle.ffv1_holding.specs.Contents.{Contents}
use Rattle.ffv1_holding.specs.TileState.{AreSettled, restored_payload}
use Rattle.ffv1_holding.specs.Refusals.{IsRefusal}
use Rattle.ffv1_hold.specs.FileFaults.{ReadsHolding}
use Rattle.ffv1_holding.specs.declared.restore.RestoreFault.TheVariants as refusals
use Rattle.ffv1_commands.specs.Devices.{WriteStops, BothStop, BothKept}
use Rattle.ffv1_commands.specs.Holdings.{IsHoldingFile, IsHoldingFault, HoldingStops}
use Rattle.ffv1_commands.specs.declared.fault.CliFault.{CliFault}
use Rattle.ffv1_commands.specs.declared.fault.CliFault.TheVariants as faults
use Rattle.ffv1_commands.specs.declared.path.CommandPath.TheVariants as paths

-- how many bytes were restored
abbrev pub restored_line : ℕ → List ℕ
restored_line count = codes "restored " ++ decimal count ++ codes " bytes\n"

-- Every tile of the file's holding is settled, its slices were written, and then their length was printed.
pub record RestoresFile (recordings : Recordings) (input out_before out_after printed_before printed_after : Option (List ℕ)) : Type 0 where
  pub held : Contents
  pub file : IsHoldingFile recordings input held
  pub settled : AreSettled held
  pub payload : Appends out_before out_after (restored_payload held)
  pub printed : Appends printed_before printed_after (restored_line (length (restored_payload held)))

-- What a fault says, and what it left in the outputs where writing failed: the file's fault, the first tile that isn't settled, or a
-- front of what is written.
abbrev pub RestoreStops : Recordings → (input out_before out_after printed_before printed_after : Option (List ℕ)) → CliFault → Type 0
RestoreStops recordings input out_before out_after printed_before printed_after (faults.Missing tile) = (h : Contents) × IsHoldingFile recordings input h
    × IsRefusal h (refusals.Missing tile)
RestoreStops recordings input out_before out_after printed_before printed_after (faults.Disputed tile) = (h : Contents) × IsHoldingFile recordings input h
    × IsRefusal h (refusals.Disputed tile)
RestoreStops recordings input out_before out_after printed_before printed_after (faults.Write path) =
    (h : Contents) × IsHoldingFile recordings input h × AreSettled h
    × WriteStops (restored_payload h) (restored_line (length (restored_payload h))) out_before out_after printed_before printed_after (faults.Write path)
RestoreStops recordings input out_before out_after printed_before printed_after fault = IsHoldingFault recordings (paths.Hold 0) input fault

-- ---- over the logs of the devices

-- What stopped the command once the file was read: the first tile that isn't settled, or, where all are, Memory or writing.
abbrev pub RestoreRefuses : Contents → (out_old out_new output_old output_new : WriteLog) → CliFault → Type 0
RestoreRefuses h out_old out_new output_old output_new (faults.Missing tile) =
    IsRefusal h (refusals.Missing tile) × BothKept out_old out_new output_old output_new
RestoreRefuses h out_old out_new output_old output_new (faults.Disputed tile) =
    IsRefusal h (refusals.Disputed tile) × BothKept out_old out_new output_old output_new
RestoreRefuses h out_old out_new output_old output_new faults.Memory = AreSettled h × BothKept out_old out_new output_old output_new
RestoreRefuses h out_old out_new output_old output_new (faults.Write path) =
    AreSettled h × BothStop (faults.Write path) (restored_payload h) (restored_line (length (restored_payload h))) out_old out_new output_old output_new
RestoreRefuses h out_old out_new output_old output_new _ = ⊥

-- The file was read, and its payload and then the line were written; or it was not read, and both outputs are as they were; or it was,
-- and the command stopped after that.
abbrev pub ReportsRestore : {T : Type 0} → Recordings → Result T CliFault → (file_old file_new : ReadLog) → (out_old out_new output_old output_new : WriteLog) → Type 0
ReportsRestore recordings (Ok x) file_old file_new out_old out_new output_old output_new =
    (h : Contents) × ReadsHolding recordings file_old file_new h × AreSettled h
    × Writes out_old out_new (restored_payload h) × Writes output_old output_new (restored_line (length (restored_payload h)))
ReportsRestore recordings (Err fault) file_old file_new out_old out_new output_old output_new =
    (HoldingStops recordings (paths.Hold 0) fault file_old file_new × BothKept out_old out_new output_old output_new)
    ⊎ ((h : Contents) × ReadsHolding recordings file_old file_new h × RestoreRefuses h out_old out_new output_old output_new fault)
