-- What the command `check` reads and prints: a file, which is opened twice, and the report of it.
use Rattle.std.specs.Prelude.{ℕ, ◌≡◌, ◌⊎◌, Bool, List, Option, IfSome, Result, Ok, Err}
use Rattle.std.specs.Io.KnownBytes.{Appends, Keeps}
use Rattle.ffv1_devices.specs.Logs.{ReadLog, WriteLog, Writes, StopsWriting}
use Rattle.ebml_reader.specs.Reader.{IsFault}
use Rattle.ebml_reader.specs.declared.fault.ReaderFault.TheVariants as stops
use Rattle.matroska_parts.specs.SourceParts.{FindsTracks}
use Rattle.matroska_parts.specs.declared.tracks_search.FoundTracks.{FoundTracks}
use Rattle.ffv1_check.specs.Checks.{IsCheckOf}
use Rattle.ffv1_check.specs.SourceChecks.{IsReadAndChecked}
use Rattle.ffv1_check.specs.ReportLines.{check_text}
use Rattle.ffv1_check.specs.declared.report.Report.{Report}
use Rattle.ffv1_commands.specs.Devices.{WritesFront}
use Rattle.ffv1_commands.specs.declared.fault.CliFault.{CliFault}
use Rattle.ffv1_commands.specs.declared.fault.CliFault.TheVariants as faults
use Rattle.ffv1_commands.specs.declared.path.CommandPath.TheVariants as paths

-- ---- over devices

-- The first Tracks was found in one source. A second one was read to its end, and if that has the same first Tracks, this is the report of a
-- check of what it gave.
pub record TakesReport (first_old first_new second_old second_new : ReadLog) (report : Report) : Type 0 where
  pub found : FoundTracks
  pub finds : FindsTracks found first_old first_new
  pub checks : IsReadAndChecked found report second_old second_new

-- A source was given up, or gave 2^62 bytes or more.
abbrev pub IsUnchecked : ReadLog → ReadLog → Type 0
IsUnchecked old new = IsFault stops.Read 0 old new

-- The first source was given up or gave too many bytes, and the second was not touched; or the second went so, after the Tracks was found.
abbrev pub AreUnchecked : (first_old first_new second_old second_new : ReadLog) → Type 0
AreUnchecked first_old first_new second_old second_new =
    (IsUnchecked first_old first_new × (second_new ≡ second_old))
    ⊎ ((found : FoundTracks) × FindsTracks found first_old first_new × IsUnchecked second_old second_new)

-- How a fault stopped the command: the file was not read, or memory ran out and no source was given up, which leaves the output as it was; or
-- a front of the report was printed.
abbrev pub CheckBreaks : CliFault → (first_old first_new second_old second_new : ReadLog) → (out_old out_new : WriteLog) → Type 0
CheckBreaks (faults.Read path) first_old first_new second_old second_new out_old out_new =
    (path ≡ paths.File) × AreUnchecked first_old first_new second_old second_new × (out_new ≡ out_old)
CheckBreaks (faults.Write path) first_old first_new second_old second_new out_old out_new =
    (path ≡ paths.StandardOutput)
    × ((report : Report) × TakesReport first_old first_new second_old second_new report × StopsWriting out_old out_new (check_text report))
CheckBreaks faults.Memory first_old first_new second_old second_new out_old out_new =
    IsFault stops.Memory 0 first_old first_new × IsFault stops.Memory 0 second_old second_new × (out_new ≡ out_old)
CheckBreaks _ first_old first_new second_old second_new out_old out_new = ⊥

-- The report was printed, and the command returned whether the file is whole; or a fault stopped it.
abbrev pub ChecksDevices : Result Bool CliFault → (first_old first_new second_old second_new : ReadLog) → (out_old out_new : WriteLog) → Type 0
ChecksDevices (Ok whole) first_old first_new second_old second_new out_old out_new =
    (report : Report) × TakesReport first_old first_new second_old second_new report × (whole ≡ report.is_whole)
    × Writes out_old out_new (check_text report)
ChecksDevices (Err fault) first_old first_new second_old second_new out_old out_new =
    CheckBreaks fault first_old first_new second_old second_new out_old out_new

-- ---- over the bytes of the file, which are the same at both openings, and of the output

-- The report is that of a check of the file, if its bytes are known.
abbrev pub IsCheckOfFile : Option (List ℕ) → Report → Type 0
IsCheckOfFile file report = IfSome file (λ bytes. IsCheckOf bytes report)

-- The report of a check of the file was printed, and the command returned whether the file is whole.
pub record ChecksFile (file before after : Option (List ℕ)) (whole : Bool) : Type 0 where
  pub report : Report
  pub is_check : IsCheckOfFile file report
  pub printed : Appends before after (check_text report)
  pub returned : whole ≡ report.is_whole

-- A front of that report was printed.
pub record ChecksFront (file before after : Option (List ℕ)) : Type 0 where
  pub report : Report
  pub is_check : IsCheckOfFile file report
  pub printed : WritesFront before after (check_text report)

-- What a fault left in the output: nothing, but for a front of the report where printing it failed.
abbrev pub CheckStops : (file before after : Option (List ℕ)) → CliFault → Type 0
CheckStops file before after (faults.Read path) = (path ≡ paths.File) × Keeps before after
CheckStops file before after (faults.Write path) = (path ≡ paths.StandardOutput) × ChecksFront file before after
CheckStops file before after faults.Memory = Keeps before after
CheckStops file before after _ = ⊥
