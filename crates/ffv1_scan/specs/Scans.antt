-- What scanning the ranges of a file reads and writes.
use Rattle.std.specs.Prelude.{ℕ, ◌≡◌, ◌+◌, ◌<◌, ◌≤◌, ◌⊎◌, Bool, List, [], ◌∷◌, ◌++◌, length, Result, Ok, Err}
use Rattle.std.specs.List.{list_all}
use Rattle.std.specs.Io.KnownBytes.{IsAtEnd}
use Rattle.ffv1_devices.specs.Logs.{ReadLog, WriteLog, Reads, BreaksOff, Writes, StopsWriting}
use Rattle.ffv1_scan.specs.declared.ranges.ByteRange.{ByteRange}
use Rattle.ffv1_scan.specs.declared.verdict.Verdict.{Verdict}
use Rattle.ffv1_scan.specs.declared.scanning.ScanFault.{ScanFault}
use Rattle.ffv1_scan.specs.declared.scanning.ScanFault.TheVariants as faults
use Rattle.ffv1_scan.specs.Ranges.{ranges_end}
use Rattle.ffv1_scan.specs.Verdicts.{AreVerdictsOf, is_undamaged, verdict_lines}

-- The file was read from its start on, no further than to the end of the last range; the ranges of a front were judged in order, and a line
-- for each went to the output.
pub record ScansFront (ranges front : List ByteRange) (Read Wrote : List ℕ → Type 0) : Type 0 where
  pub rest : List ByteRange
  pub split : ranges ≡ front ++ rest
  pub bytes : List ℕ
  pub read : Read bytes
  pub least : ranges_end 0 front ≤ length bytes
  pub most : length bytes ≤ ranges_end 0 ranges
  pub verdicts : List Verdict
  pub judged : AreVerdictsOf bytes front verdicts
  pub wrote : Wrote (verdict_lines 1 verdicts)

-- the first of the ranges ends after this place
abbrev pub FirstEndsAfter : ℕ → List ByteRange → Type 0
FirstEndsAfter place [] = ⊥
FirstEndsAfter place (range ∷ ranges) = place < range.place + range.size

-- All ranges were judged and their lines written, and what is returned is whether all are undamaged. Or the file was given up; or it ended
-- before the end of the first range that is not judged; or memory was refused; or the output was given up.
abbrev pub ScansRanges : List ByteRange → Result Bool ScanFault → ReadLog → ReadLog → WriteLog → WriteLog → Type 0
ScansRanges ranges (Ok undamaged) old new out_old out_new =
    (scan : ScansFront ranges ranges (Reads old new) (Writes out_old out_new)) × (undamaged ≡ list_all is_undamaged scan.verdicts)
ScansRanges ranges (Err faults.Read) old new out_old out_new =
    ((front : List ByteRange) × ScansFront ranges front (BreaksOff old new) (Writes out_old out_new))
    ⊎ ((front : List ByteRange) × (scan : ScansFront ranges front (Reads old new) (Writes out_old out_new))
    × IsAtEnd new.remaining × FirstEndsAfter (length scan.bytes) scan.rest)
ScansRanges ranges (Err faults.Memory) old new out_old out_new = (front : List ByteRange)
    × ScansFront ranges front (Reads old new) (Writes out_old out_new)
ScansRanges ranges (Err faults.Write) old new out_old out_new = (front : List ByteRange)
    × (scan : ScansFront ranges front (Reads old new) (StopsWriting out_old out_new)) × (length scan.bytes ≡ ranges_end 0 front)
