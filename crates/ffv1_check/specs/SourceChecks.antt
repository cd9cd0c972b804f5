-- What a check of a file reports that is read from a source (own): the report of the bytes that the source gave.
use Rattle.std.specs.Prelude.{ℕ, List, Result, Ok, Err}
use Rattle.std.specs.Io.KnownBytes.{IsAtEnd}
use Rattle.ffv1_devices.specs.Logs.{ReadLog, Reads}
use Rattle.ebml_reader.specs.Reader.{IsFault}
use Rattle.ebml_reader.specs.declared.fault.ReaderFault.{ReaderFault}
use Rattle.matroska_parts.specs.declared.tracks_search.FoundTracks.{FoundTracks}
use Rattle.matroska_parts.specs.SourceParts.{found_in, IsFirstTracksOf}
use Rattle.ffv1_check.specs.declared.report.Report.{Report}
use Rattle.ffv1_check.specs.Checks.{IsCheckOf}

-- A file was read to its end. If this is its first Tracks, the report is that of its bytes.
pub record IsReadAndChecked (found : FoundTracks) (report : Report) (old new : ReadLog) : Type 0 where
  pub file : List ℕ
  pub reads : Reads old new file
  pub end : IsAtEnd new.remaining
  pub is : IsFirstTracksOf (found_in found) file → IsCheckOf file report

abbrev pub ChecksSource : FoundTracks → Result Report ReaderFault → ReadLog → ReadLog → Type 0
ChecksSource found (Ok report) old new = IsReadAndChecked found report old new
ChecksSource found (Err fault) old new = IsFault fault 0 old new
