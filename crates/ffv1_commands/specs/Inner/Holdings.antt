-- How private calls read a holding file and write one.
use Rattle.std.specs.Prelude.{ℕ, List, Option, Result, Ok, Err}
use Rattle.ffv1_holding.specs.Contents.{Contents}
use Rattle.ffv1_holding.specs.declared.recordings.Recordings.{Recordings}
use Rattle.ffv1_hold.specs.HoldingText.{holding_text}
use Rattle.ffv1_devices.specs.Logs.{ReadLog, WriteLog, Writes}
use Rattle.ffv1_hold.specs.FileFaults.{ReadsHolding}
use Rattle.ffv1_commands.specs.Devices.{WriteStops}
use Rattle.ffv1_commands.specs.declared.fault.CliFault.{CliFault}
use Rattle.ffv1_commands.specs.declared.fault.CliFault.TheVariants as faults
use Rattle.ffv1_commands.specs.declared.path.CommandPath.{CommandPath}
use Rattle.ffv1_commands.specs.TakenFrames.{IsFiled}
use Rattle.ffv1_commands.specs.Holdings.{IsFileFault, IsSavedFile, HoldingStops, SavingBreaks, IsMade, MadeBreaks}

-- Why the file of a holding and then a text were not written whole: it has none, or a front of them was written.
abbrev pub MadeStops : Contents → List ℕ → (out_before out_after text_before text_after : Option (List ℕ)) → CliFault → Type 0
MadeStops h text out_before out_after text_before text_after (faults.Write path) =
    (filed : Contents) × IsFiled h filed × WriteStops (holding_text filed) text out_before out_after text_before text_after (faults.Write path)
MadeStops h text out_before out_after text_before text_after fault = IsFileFault h fault

-- ---- over the log of the file

-- the file was read to its end and is that of the holding, or it was not
abbrev pub ReadsHeld : Recordings → CommandPath → Result Contents CliFault → ReadLog → ReadLog → Type 0
ReadsHeld recordings path (Ok h) old new = ReadsHolding recordings old new h
ReadsHeld recordings path (Err fault) old new = HoldingStops recordings path fault old new

-- ---- over the logs of both outputs

-- the file of a holding was written to OUT, or it was not
abbrev pub SavesNamed : {T : Type 0} → Result T CliFault → Contents → (old new : WriteLog) → Type 0
SavesNamed (Ok x) h old new = (file : List ℕ) × IsSavedFile h file × Writes old new file
SavesNamed (Err fault) h old new = SavingBreaks h old new fault

-- the file and then the text were written, or they were not written whole
abbrev pub WritesMade : {T : Type 0} → Result T CliFault → Contents → List ℕ → (out_old out_new output_old output_new : WriteLog) → Type 0
WritesMade (Ok x) h text out_old out_new output_old output_new = IsMade h text out_old out_new output_old output_new
WritesMade (Err fault) h text out_old out_new output_old output_new = MadeBreaks h text out_old out_new output_old output_new fault
