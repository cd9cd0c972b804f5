-- What the command `scan` reads and prints: a list of ranges, the file from its start on, no further than to the end of the last range, and
-- a line for each range.
use Rattle.std.specs.Prelude.{ℕ, ◌≡◌, ◌⊎◌, Bool, List, Option, Result, Ok, Err}
use Rattle.std.specs.List.{list_all}
use Rattle.std.specs.Io.KnownBytes.{Appends, Keeps}
use Rattle.ffv1_devices.specs.Logs.{ReadLog, WriteLog}
use Rattle.ffv1_scan.specs.declared.ranges.ByteRange.{ByteRange}
use Rattle.ffv1_scan.specs.declared.scanning.ScanFault.TheVariants as scans
use Rattle.ffv1_scan.specs.Ranges.{AreRanges, IsFirstWrong}
use Rattle.ffv1_scan.specs.Verdicts.{is_undamaged}
use Rattle.ffv1_scan.specs.Scans.{ScansFront, ScansRanges}
use Rattle.ffv1_commands.specs.Devices.{InputBegins, IsUnread, WritesFront}
use Rattle.ffv1_commands.specs.Lists.{ReadsList, IsList}
use Rattle.ffv1_commands.specs.declared.fault.CliFault.{CliFault}
use Rattle.ffv1_commands.specs.declared.fault.CliFault.TheVariants as faults
use Rattle.ffv1_commands.specs.declared.path.CommandPath.TheVariants as paths

-- ---- over devices

-- why the list gave no ranges
abbrev pub IsFaultOfRanges : (old new : ReadLog) → CliFault → Type 0
IsFaultOfRanges old new (faults.Read path) = (path ≡ paths.Ranges) × IsUnread old new
IsFaultOfRanges old new (faults.Ranges number) = ReadsList (λ text. IsFirstWrong text number) old new
IsFaultOfRanges old new faults.Memory = Unit {0}
IsFaultOfRanges old new _ = ⊥

-- The list gave ranges, and this came of them.
abbrev pub ScansListed : (list_old list_new : ReadLog) → (List ByteRange → Type 0) → Type 0
ScansListed list_old list_new P = (ranges : List ByteRange) × ReadsList (λ text. AreRanges text ranges) list_old list_new × P ranges

-- why a scan stopped at one of its ranges
abbrev pub StopsAtRange : (list_old list_new file_old file_new : ReadLog) (out_old out_new : WriteLog) → CliFault → Type 0
StopsAtRange list_old list_new file_old file_new out_old out_new (faults.Read path) =
    (path ≡ paths.File) × ScansListed list_old list_new (λ ranges. ScansRanges ranges (Err scans.Read) file_old file_new out_old out_new)
StopsAtRange list_old list_new file_old file_new out_old out_new (faults.Write path) =
    (path ≡ paths.StandardOutput) × ScansListed list_old list_new (λ ranges. ScansRanges ranges (Err scans.Write) file_old file_new out_old out_new)
StopsAtRange list_old list_new file_old file_new out_old out_new faults.Memory =
    ScansListed list_old list_new (λ ranges. ScansRanges ranges (Err scans.Memory) file_old file_new out_old out_new)
StopsAtRange list_old list_new file_old file_new out_old out_new _ = ⊥

-- All ranges were scanned; or the list gave none, and neither the file nor the output was touched; or the scan stopped at a range.
abbrev pub ScansDevices : Result Bool CliFault → (list_old list_new file_old file_new : ReadLog) (out_old out_new : WriteLog) → Type 0
ScansDevices (Ok undamaged) list_old list_new file_old file_new out_old out_new =
    ScansListed list_old list_new (λ ranges. ScansRanges ranges (Ok undamaged) file_old file_new out_old out_new)
ScansDevices (Err fault) list_old list_new file_old file_new out_old out_new =
    (IsFaultOfRanges list_old list_new fault × (file_new ≡ file_old) × (out_new ≡ out_old))
    ⊎ StopsAtRange list_old list_new file_old file_new out_old out_new fault

-- ---- over the bytes of inputs and outputs

-- The lines of all ranges were printed, each judged as its bytes alone, and the command returned whether each is whole, has a link and
-- has all its links pass.
pub record ScansFile (list file before after : Option (List ℕ)) (undamaged : Bool) : Type 0 where
  pub ranges : List ByteRange
  pub list' : IsList (λ text. AreRanges text ranges) list
  pub scan : ScansFront ranges ranges (InputBegins file) (Appends before after)
  pub returned : undamaged ≡ list_all is_undamaged scan.verdicts

-- The ranges of a front were judged, and this was printed.
pub record ScansSome (list file : Option (List ℕ)) (Prints : List ℕ → Type 0) : Type 0 where
  pub ranges : List ByteRange
  pub list' : IsList (λ text. AreRanges text ranges) list
  pub front : List ByteRange
  pub scan : ScansFront ranges front (InputBegins file) Prints

-- What a fault left in the output: nothing where the list gave no ranges; else the lines of the ranges before it, or a front of lines where
-- printing them failed.
abbrev pub ScanStops : (list file before after : Option (List ℕ)) → CliFault → Type 0
ScanStops list file before after (faults.Read path) =
    ((path ≡ paths.Ranges) × Keeps before after) ⊎ ((path ≡ paths.File) × ScansSome list file (Appends before after))
ScanStops list file before after (faults.Ranges number) =
    IsList (λ text. IsFirstWrong text number) list × Keeps before after
ScanStops list file before after (faults.Write path) =
    (path ≡ paths.StandardOutput) × ScansSome list file (WritesFront before after)
ScanStops list file before after faults.Memory =
    Keeps before after ⊎ ScansSome list file (Appends before after)
ScanStops list file before after _ = ⊥
