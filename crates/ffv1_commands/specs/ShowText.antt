-- What the command `show` prints: the setup of a record.
use Rattle.std.specs.Prelude.{ℕ, List, Option, Result, if◌then◌else◌}
use Rattle.ffv1_range.specs.Setup.{SetupValue, IsSetupOf}
use Rattle.ffv1_range.specs.SetupFaults.{FirstSetupFault}
use Rattle.ffv1_devices.specs.Logs.{ReadLog, WriteLog}
use Rattle.ffv1_commands.specs.RecordInputs.{TakesSetup, RecordStops}
use Rattle.ffv1_commands.specs.RecordText.{PrintsText, TextStops, ReportsText}
use Rattle.ffv1_commands.specs.SetupLines.{setup_lines}
use Rattle.ffv1_commands.specs.declared.fault.CliFault.{CliFault}

-- its lines; the profile has Golomb-Rice codes, gray or Y Cb Cr, 8 bits a sample, and no alpha
abbrev pub show_text : SetupValue → List ℕ
show_text setup = setup_lines 0 0 8 (if setup.has_chroma then 3 else 1) setup

-- The setup of the record was printed.
abbrev pub PrintsSetup : List ℕ → ℕ → ℕ → Option (List ℕ) → Option (List ℕ) → Type 0
PrintsSetup config width height before after = PrintsText (λ setup. IsSetupOf config width height setup) show_text before after

-- What a fault left in the output.
abbrev pub ShowStops : ℕ → ℕ → Option (List ℕ) → Option (List ℕ) → Option (List ℕ) → CliFault → Type 0
ShowStops width height config before after fault =
    TextStops (λ bytes setup. IsSetupOf bytes width height setup) (λ bytes first. FirstSetupFault bytes width height first) show_text
    config before after fault

-- ---- over the logs of the devices

-- The setup of the record was printed, or a fault stopped the command.
abbrev pub ReportsShow : {T : Type 0} → Result T CliFault → (width height : ℕ) → (input_old input_new : ReadLog) → (output_old output_new : WriteLog)
    → Type 0
ReportsShow result width height input_old input_new output_old output_new =
    ReportsText result (TakesSetup width height input_old input_new) (RecordStops width height input_old input_new) show_text output_old output_new
