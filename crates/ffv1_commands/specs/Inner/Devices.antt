-- What private calls take from a file and leave in one.
use Rattle.std.specs.Prelude.{ℕ, ◌≡◌, ◌≤◌, List, length, Option, Result, Ok, Err}
use Rattle.std.specs.Io.KnownBytes.{Consumes, IsAtEnd}
use Rattle.ffv1_bits.specs.Limits.{payload_limit}
use Rattle.ffv1_devices.specs.Logs.{ReadLog, WriteLog, Writes, StopsWriting}
use Rattle.ffv1_commands.specs.declared.fault.CliFault.{CliFault}
use Rattle.ffv1_commands.specs.declared.fault.CliFault.TheVariants as faults
use Rattle.ffv1_commands.specs.declared.path.CommandPath.{CommandPath}
use Rattle.ffv1_commands.specs.Devices.{TakesWhole, FileStops, CopyStops, BothStop}

-- A reader's bytes were taken to their end, and are not too many.
pub record ReadsWhole (before after : Option (List ℕ)) (bytes : List ℕ) : Type 0 where
  pub taken : Consumes before after bytes
  pub end : IsAtEnd after
  pub few : length bytes ≤ payload_limit

-- the file that is this path of the command was read whole, or it was not
abbrev pub ReadsNamed : {T : Type 0} → (T → List ℕ) → CommandPath → Result T CliFault → ReadLog → ReadLog → Type 0
ReadsNamed items path (Ok x) old new = TakesWhole old new (items x)
ReadsNamed items path (Err fault) old new = FileStops path fault old new

-- the copy that is this path of the command was read whole, or it was not
abbrev pub ReadsWholeCopy : {T : Type 0} → (T → List ℕ) → CommandPath → Result T CliFault → ReadLog → ReadLog → Type 0
ReadsWholeCopy items path (Ok x) old new = TakesWhole old new (items x)
ReadsWholeCopy items path (Err fault) old new = CopyStops path fault old new

-- the faults of reading this path of the command
abbrev pub IsInputFault : CommandPath → CliFault → Type 0
IsInputFault path (faults.Read named) = named ≡ path
IsInputFault path faults.Memory = Unit {0}
IsInputFault path _ = ⊥

-- the bytes were written to what is this path of the command, or a front of them
abbrev pub WritesNamed : {T : Type 0} → CommandPath → Result T CliFault → WriteLog → WriteLog → List ℕ → Type 0
WritesNamed path (Ok x) old new bytes = Writes old new bytes
WritesNamed path (Err fault) old new bytes = (fault ≡ faults.Write path) × StopsWriting old new bytes

-- the file OUT was written and then the text, or they were not written whole
abbrev pub WritesBoth : {T : Type 0} → Result T CliFault → (file text : List ℕ) → (out_old out_new output_old output_new : WriteLog) → Type 0
WritesBoth (Ok x) file text out_old out_new output_old output_new = Writes out_old out_new file × Writes output_old output_new text
WritesBoth (Err fault) file text out_old out_new output_old output_new = BothStop fault file text out_old out_new output_old output_new
