-- What the steps of a scan read and write.
use Rattle.std.specs.Prelude.{ℕ, ◌≡◌, ◌+◌, ◌<◌, List, [], ◌++◌, length, Result, Ok, Err}
use Rattle.ffv1_devices.specs.Exact.{EndsBefore}
use Rattle.ffv1_devices.specs.Logs.{ReadLog, WriteLog, Reads, BreaksOff, Writes, StopsWriting}
use Rattle.ffv1_scan.specs.declared.verdict.Verdict.{Verdict}
use Rattle.ffv1_scan.specs.declared.scanning.ScanFault.{ScanFault}
use Rattle.ffv1_scan.specs.declared.scanning.ScanFault.TheVariants as faults
use Rattle.ffv1_scan.specs.Verdicts.{IsVerdictOf}

-- After a gap of so many bytes a range of so many was read and judged, or the source ended before that, or memory for the range was
-- refused before its end.
abbrev pub JudgesNext : (gap size : ℕ) → Result Verdict ScanFault → ReadLog → ReadLog → Type 0
JudgesNext gap size (Ok verdict) old new = (before bytes : List ℕ) × Reads old new (before ++ bytes)
    × (length before ≡ gap) × (length bytes ≡ size) × IsVerdictOf bytes verdict
JudgesNext gap size (Err faults.Read) old new = EndsBefore (gap + size) old new
JudgesNext gap size (Err faults.Memory) old new = (bytes : List ℕ) × Reads old new bytes × (length bytes < gap + size)
JudgesNext gap size (Err faults.Write) old new = ⊥

-- why a line was not written whole: a front of it was before the output was given up, or nothing, where memory was refused
abbrev pub LineStops : List ℕ → WriteLog → WriteLog → ScanFault → Type 0
LineStops line old new faults.Write = StopsWriting old new line
LineStops line old new faults.Memory = new ≡ old
LineStops line old new faults.Read = ⊥

-- a line was written, or not whole
abbrev pub WritesLine : {T : Type 0} → List ℕ → Result T ScanFault → WriteLog → WriteLog → Type 0
WritesLine line (Ok x) old new = Writes old new line
WritesLine line (Err fault) old new = LineStops line old new fault

-- a file that can be read was looked at, or it was given up; no byte was read
abbrev pub Opens : {T E : Type 0} → Result T E → ReadLog → ReadLog → Type 0
Opens (Ok x) old new = Reads old new []
Opens (Err e) old new = BreaksOff old new []
