-- What printing a report does to the output.
use Rattle.std.proofs.Common.{Result, Ok, Err, inl, inr, refl, sym, subst, arith}
use Rattle.ffv1_holding.specs.declared.recordings.Recordings.{Recordings}
use Rattle.ffv1_devices.specs.Logs.{ReadLog, WriteLog}
use Rattle.ffv1_holding.specs.Contents.{Contents}
use Rattle.ffv1_hold.specs.FileFaults.{ReadsHolding}
use Rattle.ffv1_holding.specs.ReportText.{report_text}
use Rattle.ffv1_commands.specs.Inner.Devices.{WritesNamed}
use Rattle.ffv1_commands.specs.Paths.{IsReportPath}
use Rattle.ffv1_commands.specs.ReportedText.{ReportsFile, ReportStops, ReportBreaks, ReportsReport}
use Rattle.ffv1_commands.specs.declared.fault.CliFault.{CliFault}
use Rattle.ffv1_commands.specs.declared.fault.CliFault.TheVariants as faults
use Rattle.ffv1_commands.specs.declared.path.CommandPath.TheVariants as paths
use Rattle.ffv1_commands.proofs.HeldFiles.{held_file}
use Rattle.ffv1_commands.proofs.OfBytes.{OfBytes, unread_bytes}

-- the report was printed once the file was read, or was not
pub reported : {T : Type 0} (recordings : Recordings) (a b : ReadLog) (old new : WriteLog) (h : Contents) → ReadsHolding recordings a b h → (r : Result T CliFault)
    → WritesNamed paths.StandardOutput r old new (report_text h) → ReportsReport recordings r a b old new
reported recordings a b old new h read (Ok x) wrote = (h, read, wrote)
reported recordings a b old new h read (Err fault) (is, stopped) = inr (h, read, subst (ReportBreaks h old new) (sym is) (refl, stopped))

-- ---- the same of bytes

module _ (recordings : Recordings) (a b : ReadLog) (old new : WriteLog) where
  abbrev Stops : CliFault → Type 0
  Stops fault = ReportStops recordings a.remaining old.contents new.contents fault

  module _ {T : Type 0} where
    abbrev Did : T → Type 0
    Did x = ReportsFile recordings a.remaining old.contents new.contents

    unreported : (h : Contents) → ReadsHolding recordings a b h → (fault : CliFault) → ReportBreaks h old new fault → OfBytes Did Stops IsReportPath (Err fault)
    unreported h read faults.Memory kept = record { ok = tt; err = tt; names = tt }
    unreported h read (faults.Write path) (same, stopped) =
        record { ok = tt; err = (same, (h, held_file _ a b h read, stopped.front)); names = subst IsReportPath (sym same) tt }
    unreported h read fault stops = absurd stops

    pub report_of_bytes : (r : Result T CliFault) → ReportsReport recordings r a b old new → OfBytes Did Stops IsReportPath r
    report_of_bytes (Ok x) (h, read, wrote) =
        record { ok = record { held = h; file = held_file _ a b h read; printed = wrote.bytes' }; err = tt; names = tt }
    report_of_bytes (Err fault) (inl (stops, kept)) = unread_bytes Did Stops IsReportPath recordings a b fault (omega arith) refl tt (λ file shown. shown) stops
    report_of_bytes (Err fault) (inr (h, read, breaks)) = unreported h read fault breaks
