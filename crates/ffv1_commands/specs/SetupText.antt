-- What the command `setup` prints: what a record says of any recording of version 3.
use Rattle.std.specs.Prelude.{ℕ, ◌++◌, Bool, List, Option, Result, codes, if◌then◌else◌}
use Rattle.std.specs.List.{flat_map}
use Rattle.ffv1_range.specs.Setup.{RecordingValue, IsRecordingOf}
use Rattle.ffv1_range.specs.SetupFaults.{FirstRecordingFault}
use Rattle.ffv1_devices.specs.Logs.{ReadLog, WriteLog}
use Rattle.ffv1_commands.specs.Formats.{colorspace_type, planes_with_alpha, format_name}
use Rattle.ffv1_commands.specs.RecordInputs.{TakesRecording, RecordingStops}
use Rattle.ffv1_commands.specs.RecordText.{PrintsText, TextStops, ReportsText}
use Rattle.ffv1_commands.specs.SetupLines.{setup_lines}
use Rattle.ffv1_commands.specs.declared.fault.CliFault.{CliFault}

-- states_coded of each set of tables
abbrev pub coded_word : Bool → List ℕ
coded_word coded = if coded then codes " 1" else codes " 0"

abbrev pub states_line : RecordingValue → List ℕ
states_line recording = codes "states" ++ flat_map (λ states. coded_word states.coded) recording.states ++ codes "\n"

abbrev pub format_line : RecordingValue → List ℕ
format_line recording = codes "format " ++ format_name recording ++ codes "\n"

-- its lines: those of the setup, and two more
abbrev pub setup_text : RecordingValue → List ℕ
setup_text recording =
    setup_lines recording.coder (colorspace_type recording) recording.depth (planes_with_alpha recording) recording.setup
    ++ states_line recording ++ format_line recording

-- What the record says was printed.
abbrev pub PrintsRecording : List ℕ → ℕ → ℕ → Option (List ℕ) → Option (List ℕ) → Type 0
PrintsRecording config width height before after = PrintsText (λ recording. IsRecordingOf config width height recording) setup_text before after

-- What a fault left in the output.
abbrev pub SetupStops : ℕ → ℕ → Option (List ℕ) → Option (List ℕ) → Option (List ℕ) → CliFault → Type 0
SetupStops width height config before after fault =
    TextStops (λ bytes recording. IsRecordingOf bytes width height recording) (λ bytes first. FirstRecordingFault bytes width height first) setup_text
    config before after fault

-- ---- over the logs of the devices

-- What the record says was printed, or a fault stopped the command.
abbrev pub ReportsSetup : {T : Type 0} → Result T CliFault → (width height : ℕ) → (input_old input_new : ReadLog) → (output_old output_new : WriteLog)
    → Type 0
ReportsSetup result width height input_old input_new output_old output_new =
    ReportsText result (TakesRecording width height input_old input_new) (RecordingStops width height input_old input_new) setup_text output_old output_new
