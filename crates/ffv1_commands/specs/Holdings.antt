-- Holding files as a command reads and writes them.
use Rattle.std.specs.Prelude.{ℕ, ◌≡◌, ◌⊎◌, List, Option, IfSome, Err}
use Rattle.ffv1_holding.specs.Contents.{Contents, IsHolding}
use Rattle.ffv1_holding.specs.declared.recordings.Recordings.{Recordings}
use Rattle.ffv1_hold.specs.HoldingText.{file_text, holding_text, FitsInFile}
use Rattle.ffv1_hold.specs.declared.version.Version.{Version}
use Rattle.ffv1_hold.specs.declared.version.Version.TheVariants.{Second}
use Rattle.ffv1_devices.specs.Logs.{ReadLog, WriteLog, Writes, StopsWriting}
use Rattle.ffv1_hold.specs.FileFaults.{MayTake, IsFaultOf, ReadsFile, ReadsHolding}
use Rattle.ffv1_hold.specs.Saving.{IsTooLong}
use Rattle.ffv1_hold.specs.declared.file_fault.HoldFileFault.{HoldFileFault}
use Rattle.ffv1_hold.specs.declared.file_fault.HoldFileFault.TheVariants as files
use Rattle.ffv1_commands.specs.Devices.{HasBytes}
use Rattle.ffv1_commands.specs.Fault.{of_hold_file}
use Rattle.ffv1_commands.specs.TakenFrames.{as_taken, IsFiled}
use Rattle.ffv1_commands.specs.declared.fault.CliFault.{CliFault}
use Rattle.ffv1_commands.specs.declared.fault.CliFault.TheVariants as faults
use Rattle.ffv1_commands.specs.declared.path.CommandPath.{CommandPath}
use Rattle.ffv1_commands.specs.declared.path.CommandPath.TheVariants as paths

-- The whole input is a text of the holding, which is of these recordings, if its bytes are known: that of version 2, or, where it is of the
-- profile and no origins are known, that of version 1.
pub record IsHoldingFile (recordings : Recordings) (input : Option (List ℕ)) (h : Contents) : Type 0 where
  pub version : Version
  pub text : HasBytes input (file_text version h)
  pub well_formed : IsHolding h
  pub taken : MayTake recordings h.reel
  pub fits : FitsInFile version h

-- A holding that has a file of version 2: it is one, and it and its record are within their limits.
pub record HasFile (h : Contents) : Type 0 where
  pub well_formed : IsHolding h
  pub fits : FitsInFile Second h

-- The input is the file of a holding, which as one of the frames that are taken is this.
abbrev pub IsTakenFile : Recordings → Option (List ℕ) → Contents → Type 0
IsTakenFile recordings input taken = (h : Contents) × IsHoldingFile recordings input h × (taken ≡ as_taken recordings h)

-- These bytes are the file of a holding: that of the holding as it is filed.
pub record IsSavedFile (h : Contents) (file : List ℕ) : Type 0 where
  pub filed : Contents
  pub is_filed : IsFiled h filed
  pub has_file : HasFile filed
  pub text : file ≡ holding_text filed

-- Why the file that is this path of the command gave no holding. A holding file's fault is that of the input's bytes.
abbrev pub IsHoldingFault : Recordings → CommandPath → Option (List ℕ) → CliFault → Type 0
IsHoldingFault recordings path input (faults.Read named) = named ≡ path
IsHoldingFault recordings path input (faults.HoldFile fault) = IfSome input (λ bytes. IsFaultOf recordings bytes fault)
IsHoldingFault recordings path input faults.Memory = Unit {0}
IsHoldingFault recordings path input _ = ⊥

-- why a holding, as it is filed, has no file
abbrev pub IsFileFault : Contents → CliFault → Type 0
IsFileFault h (faults.HoldFile fault) = (fault ≡ files.TooLong) × ((filed : Contents) × IsFiled h filed × IsTooLong filed)
IsFileFault h _ = ⊥

-- The file that is this path of the command was not read as that of a holding: a fault of reading it is reported as one of the command.
abbrev pub HoldingStops : Recordings → CommandPath → CliFault → ReadLog → ReadLog → Type 0
HoldingStops recordings path fault old new = (f : HoldFileFault) × (fault ≡ of_hold_file path f) × ReadsFile recordings (Err f) old new

-- A source was read to its end, and was the file of a holding, which as one of the frames that are taken is this.
abbrev pub ReadsTaken : Recordings → (old new : ReadLog) → Contents → Type 0
ReadsTaken recordings old new taken = (h : Contents) × ReadsHolding recordings old new h × (taken ≡ as_taken recordings h)

-- A source was given up as a holding file was read.
abbrev pub IsUnheld : Recordings → (old new : ReadLog) → Type 0
IsUnheld recordings old new = ReadsFile recordings (Err files.Read) old new

-- How the file of a holding was not written to OUT: it has none, which leaves OUT as it was, or a front of it was written.
abbrev pub SavingBreaks : Contents → (old new : WriteLog) → CliFault → Type 0
SavingBreaks h old new (faults.HoldFile fault) = IsFileFault h (faults.HoldFile fault) × (new ≡ old)
SavingBreaks h old new (faults.Write path) =
    (path ≡ paths.Out) × ((filed : Contents) × IsFiled h filed × (¬ IsTooLong filed) × StopsWriting old new (holding_text filed))
SavingBreaks h old new _ = ⊥

-- The file of a holding was written to OUT, and then a text was printed.
pub record IsMade (h : Contents) (text : List ℕ) (out_old out_new output_old output_new : WriteLog) : Type 0 where
  pub file : List ℕ
  pub saved : IsSavedFile h file
  pub written : Writes out_old out_new file
  pub printed : Writes output_old output_new text

-- How they were not written whole: the file was not, which leaves the output as it was, or the file and a front of the text were.
abbrev pub MadeBreaks : Contents → List ℕ → (out_old out_new output_old output_new : WriteLog) → CliFault → Type 0
MadeBreaks h text out_old out_new output_old output_new fault =
    (SavingBreaks h out_old out_new fault × (output_new ≡ output_old))
    ⊎ ((fault ≡ faults.Write paths.StandardOutput)
    × ((file : List ℕ) × IsSavedFile h file × Writes out_old out_new file × StopsWriting output_old output_new text))
