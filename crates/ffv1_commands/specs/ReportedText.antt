-- What the command `report` prints: the damage report of a holding.
use Rattle.std.specs.Prelude.{ℕ, ◌≡◌, ◌⊎◌, List, Option, Result, Ok, Err}
use Rattle.std.specs.Io.KnownBytes.{Appends}
use Rattle.ffv1_holding.specs.declared.recordings.Recordings.{Recordings}
use Rattle.ffv1_devices.specs.Logs.{ReadLog, WriteLog, Writes, StopsWriting}
use Rattle.ffv1_holding.specs.Contents.{Contents}
use Rattle.ffv1_hold.specs.FileFaults.{ReadsHolding}
use Rattle.ffv1_holding.specs.ReportText.{report_text}
use Rattle.ffv1_commands.specs.Devices.{WritesFront}
use Rattle.ffv1_commands.specs.Holdings.{IsHoldingFile, IsHoldingFault, HoldingStops}
use Rattle.ffv1_commands.specs.declared.fault.CliFault.{CliFault}
use Rattle.ffv1_commands.specs.declared.fault.CliFault.TheVariants as faults
use Rattle.ffv1_commands.specs.declared.path.CommandPath.TheVariants as paths

-- The report of the file's holding was printed.
pub record ReportsFile (recordings : Recordings) (input before after : Option (List ℕ)) : Type 0 where
  pub held : Contents
  pub file : IsHoldingFile recordings input held
  pub printed : Appends before after (report_text held)

-- What a fault says, and what it left in the output where writing failed: the file's fault, or a front of the report.
abbrev pub ReportStops : Recordings → (input before after : Option (List ℕ)) → CliFault → Type 0
ReportStops recordings input before after (faults.Write path) = (path ≡ paths.StandardOutput)
    × ((h : Contents) × IsHoldingFile recordings input h × WritesFront before after (report_text h))
ReportStops recordings input before after fault = IsHoldingFault recordings (paths.Hold 0) input fault

-- ---- over the logs of the devices

-- How the report of a holding was not printed: memory ran out, which leaves the output as it was, or a front of the report was printed.
abbrev pub ReportBreaks : Contents → (output_old output_new : WriteLog) → CliFault → Type 0
ReportBreaks h output_old output_new faults.Memory = output_new ≡ output_old
ReportBreaks h output_old output_new (faults.Write path) = (path ≡ paths.StandardOutput) × StopsWriting output_old output_new (report_text h)
ReportBreaks h output_old output_new _ = ⊥

-- The file was read and its report was printed; or it was not read, and the output is as it was; or it was read, and its report was not
-- printed.
abbrev pub ReportsReport : {T : Type 0} → Recordings → Result T CliFault → (file_old file_new : ReadLog) → (output_old output_new : WriteLog) → Type 0
ReportsReport recordings (Ok x) file_old file_new output_old output_new =
    (h : Contents) × ReadsHolding recordings file_old file_new h × Writes output_old output_new (report_text h)
ReportsReport recordings (Err fault) file_old file_new output_old output_new =
    (HoldingStops recordings (paths.Hold 0) fault file_old file_new × (output_new ≡ output_old))
    ⊎ ((h : Contents) × ReadsHolding recordings file_old file_new h × ReportBreaks h output_old output_new fault)
