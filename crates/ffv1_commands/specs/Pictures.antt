-- What a command makes and prints that shows a holding file: the samples of what can be shown of it, and then lines of its tiles. What is shown,
-- its samples, its lines and where it is whole are given.
use Rattle.std.specs.Prelude.{ℕ, ◌↔◌, ◌⊎◌, Bool, IsTrue, List, Option, Result, Ok, Err}
use Rattle.std.specs.Io.KnownBytes.{Appends}
use Rattle.ffv1_devices.specs.Logs.{ReadLog, WriteLog, Writes}
use Rattle.ffv1_holding.specs.Contents.{Contents}
use Rattle.ffv1_holding.specs.declared.recordings.Recordings.{Recordings}
use Rattle.ffv1_hold.specs.FileFaults.{ReadsHolding}
use Rattle.ffv1_commands.specs.Devices.{WriteStops, BothStop, BothKept}
use Rattle.ffv1_commands.specs.Holdings.{IsHoldingFile, IsHoldingFault, HoldingStops}
use Rattle.ffv1_commands.specs.declared.fault.CliFault.{CliFault}
use Rattle.ffv1_commands.specs.declared.fault.CliFault.TheVariants as faults
use Rattle.ffv1_commands.specs.declared.path.CommandPath.TheVariants as paths

-- What is shown of the file's holding was written, and then its lines were printed.
pub record ShowsPicture {P : Type 0} (recordings : Recordings) (IsShown : Contents → P → Type 0) (samples_of lines_of : P → List ℕ)
    (IsWhole : P → Type 0) (input out_before out_after printed_before printed_after : Option (List ℕ)) (whole : Bool) : Type 0 where
  pub held : Contents
  pub shown : P
  pub file : IsHoldingFile recordings input held
  pub picture : IsShown held shown
  pub samples : Appends out_before out_after (samples_of shown)
  pub printed : Appends printed_before printed_after (lines_of shown)
  pub is_whole : IsTrue whole ↔ IsWhole shown

-- What a fault says, and what it left in the outputs where writing failed: the file's fault, or a front of what is written.
abbrev pub ShowingStops : {P : Type 0} → Recordings → (Contents → P → Type 0) → (samples_of lines_of : P → List ℕ)
    → (input out_before out_after printed_before printed_after : Option (List ℕ)) → CliFault → Type 0
ShowingStops {P} recordings IsShown samples_of lines_of input out_before out_after printed_before printed_after (faults.Write path) =
    (h : Contents) × (shown : P) × IsHoldingFile recordings input h × IsShown h shown
    × WriteStops (samples_of shown) (lines_of shown) out_before out_after printed_before printed_after (faults.Write path)
ShowingStops recordings IsShown samples_of lines_of input out_before out_after printed_before printed_after fault =
    IsHoldingFault recordings (paths.Hold 0) input fault

-- ---- over the logs of the devices

-- what stopped it once the file was read
abbrev pub ShowingRefuses : {P : Type 0} → (Contents → P → Type 0) → (samples_of lines_of : P → List ℕ) → Contents
    → (out_old out_new output_old output_new : WriteLog) → CliFault → Type 0
ShowingRefuses IsShown samples_of lines_of h out_old out_new output_old output_new faults.Memory = BothKept out_old out_new output_old output_new
ShowingRefuses {P} IsShown samples_of lines_of h out_old out_new output_old output_new (faults.Write path) =
    (shown : P) × IsShown h shown × BothStop (faults.Write path) (samples_of shown) (lines_of shown) out_old out_new output_old output_new
ShowingRefuses IsShown samples_of lines_of h out_old out_new output_old output_new _ = ⊥

-- The samples of what is shown and then its lines were written.
pub record WritesPicture (samples lines : List ℕ) (IsWhole : Type 0) (out_old out_new output_old output_new : WriteLog) (whole : Bool) : Type 0 where
  pub wrote : Writes out_old out_new samples
  pub printed : Writes output_old output_new lines
  pub is_whole : IsTrue whole ↔ IsWhole

-- The file was read, and what can be shown of it was written; or it was not read, and both outputs are as they were; or it was, and the command
-- stopped after that.
abbrev pub ReportsShowing : {P : Type 0} → Recordings → (Contents → P → Type 0) → (samples_of lines_of : P → List ℕ) → (P → Type 0)
    → Result Bool CliFault → (file_old file_new : ReadLog) → (out_old out_new output_old output_new : WriteLog) → Type 0
ReportsShowing {P} recordings IsShown samples_of lines_of IsWhole (Ok whole) file_old file_new out_old out_new output_old output_new =
    (h : Contents) × ReadsHolding recordings file_old file_new h × ((shown : P) × IsShown h shown
    × WritesPicture (samples_of shown) (lines_of shown) (IsWhole shown) out_old out_new output_old output_new whole)
ReportsShowing recordings IsShown samples_of lines_of IsWhole (Err fault) file_old file_new out_old out_new output_old output_new =
    (HoldingStops recordings (paths.Hold 0) fault file_old file_new × BothKept out_old out_new output_old output_new)
    ⊎ ((h : Contents) × ReadsHolding recordings file_old file_new h
    × ShowingRefuses IsShown samples_of lines_of h out_old out_new output_old output_new fault)
