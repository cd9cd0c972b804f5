-- What a command does that prints one text of what a configuration record says.
use Rattle.std.specs.Prelude.{ℕ, ◌≡◌, List, Option, IfSome, Result, Ok, Err}
use Rattle.std.specs.Io.KnownBytes.{Appends, Keeps}
use Rattle.ffv1_range.specs.declared.fault.SetupFault.{SetupFault}
use Rattle.ffv1_devices.specs.Logs.{WriteLog, Writes, StopsWriting}
use Rattle.ffv1_commands.specs.Devices.{WritesFront}
use Rattle.ffv1_commands.specs.declared.fault.CliFault.{CliFault}
use Rattle.ffv1_commands.specs.declared.fault.CliFault.TheVariants as faults
use Rattle.ffv1_commands.specs.declared.path.CommandPath.TheVariants as paths

-- The text of a value that the record says was printed.
abbrev pub PrintsText : {V : Type 0} → (Says : V → Type 0) → (text : V → List ℕ) → (before after : Option (List ℕ)) → Type 0
PrintsText {V} Says text before after = (value : V) × Says value × Appends before after (text value)

-- What a fault left in the output: nothing, but for a front of the text where writing failed. A setup fault is the first that reading the
-- record meets.
abbrev pub TextStops : {V : Type 0} → (Says : List ℕ → V → Type 0) → (First : List ℕ → SetupFault → Type 0) → (text : V → List ℕ)
    → (config before after : Option (List ℕ)) → CliFault → Type 0
TextStops Says First text config before after (faults.Read path) = (path ≡ paths.Record) × Keeps before after
TextStops {V} Says First text config before after (faults.Write path) =
    (path ≡ paths.StandardOutput) × IfSome config (λ bytes. (value : V) × Says bytes value × WritesFront before after (text value))
TextStops Says First text config before after (faults.Setup fault) = IfSome config (λ bytes. First bytes fault) × Keeps before after
TextStops Says First text config before after faults.Memory = Keeps before after
TextStops Says First text config before after _ = ⊥

-- ---- over the logs of the devices

-- How a fault stopped the command: the record gave nothing, which leaves the output as it was; or the text was not written whole.
abbrev pub TextBreaks : {V : Type 0} → (Takes : V → Type 0) → (Stops : CliFault → Type 0) → (text : V → List ℕ)
    → (output_old output_new : WriteLog) → CliFault → Type 0
TextBreaks {V} Takes Stops text output_old output_new (faults.Write path) =
    (path ≡ paths.StandardOutput) × ((value : V) × Takes value × StopsWriting output_old output_new (text value))
TextBreaks Takes Stops text output_old output_new fault = Stops fault × (output_new ≡ output_old)

-- The text of a value that was taken was printed, or a fault stopped the command.
abbrev pub ReportsText : {T V : Type 0} → Result T CliFault → (Takes : V → Type 0) → (Stops : CliFault → Type 0) → (text : V → List ℕ)
    → (output_old output_new : WriteLog) → Type 0
ReportsText {T} {V} (Ok x) Takes Stops text output_old output_new = (value : V) × Takes value × Writes output_old output_new (text value)
ReportsText (Err fault) Takes Stops text output_old output_new = TextBreaks Takes Stops text output_old output_new fault
