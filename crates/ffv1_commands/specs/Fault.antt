-- How a fault of a command is reported: its line and its exit status, and which path of the command it names.
use Rattle.std.specs.Prelude.{ℕ, List, ◌++◌, codes, Option, Some, None}
use Rattle.std.specs.Fmt.{decimal}
use Rattle.ffv1_range.specs.declared.fault.SetupFault.{SetupFault}
use Rattle.ffv1_range.specs.declared.fault.SetupFault.TheVariants as setup
use Rattle.ffv1_holding.specs.declared.fault.HoldFault.{HoldFault}
use Rattle.ffv1_holding.specs.declared.fault.HoldFault.TheVariants as hold
use Rattle.ffv1_hold.specs.declared.file_fault.HoldFileFault.{HoldFileFault}
use Rattle.ffv1_hold.specs.declared.file_fault.HoldFileFault.TheVariants as file
use Rattle.ffv1_holding.specs.declared.restore.RestoreFault.{RestoreFault}
use Rattle.ffv1_holding.specs.declared.restore.RestoreFault.TheVariants as restore
use Rattle.ffv1_picture.specs.declared.fault.FrameFault.{FrameFault}
use Rattle.ffv1_picture.specs.declared.fault.FrameFault.TheVariants as frame
use Rattle.ffv1_stretches.specs.declared.pass.MendFault.{MendFault}
use Rattle.ffv1_stretches.specs.declared.pass.MendFault.TheVariants as mend
use Rattle.ffv1_player.specs.declared.fault.SamplesFault.{SamplesFault}
use Rattle.ffv1_player.specs.declared.fault.SamplesFault.TheVariants as samples
use Rattle.ffv1_player.specs.declared.playing.PlayFault.{PlayFault}
use Rattle.ffv1_player.specs.declared.playing.PlayFault.TheVariants as play
use Rattle.ebml_reader.specs.declared.fault.ReaderFault.{ReaderFault}
use Rattle.ebml_reader.specs.declared.fault.ReaderFault.TheVariants as reader
use Rattle.ffv1_commands.specs.declared.fault.CliFault.{CliFault}
use Rattle.ffv1_commands.specs.declared.fault.CliFault.TheVariants as faults
use Rattle.ffv1_commands.specs.declared.path.CommandPath.{CommandPath}
use Rattle.ffv1_commands.specs.declared.path.CommandPath.TheVariants as paths

-- the path that it names, if it names one
abbrev pub named_path : CliFault → Option CommandPath
named_path (faults.Read path) = Some path
named_path (faults.Write path) = Some path
named_path (faults.Splice path) = Some path
named_path _ = None

-- The path that it names, if it names one, is one of these.
abbrev pub NamesPath : (CommandPath → Type 0) → CliFault → Type 0
NamesPath IsPath (faults.Read path) = IsPath path
NamesPath IsPath (faults.Write path) = IsPath path
NamesPath IsPath (faults.Splice path) = IsPath path
NamesPath IsPath _ = Unit {0}

abbrev pub NamesNoPath : CliFault → Type 0
NamesNoPath fault = NamesPath (λ path. ⊥) fault

-- the number of a setup's fault
abbrev pub setup_fault_number : SetupFault → ℕ
setup_fault_number setup.TooShort = 1
setup_fault_number setup.Parity = 2
setup_fault_number (setup.Range fault) = 3
setup_fault_number setup.Version = 4
setup_fault_number setup.Micro = 5
setup_fault_number setup.Coder = 6
setup_fault_number setup.ColorSpace = 7
setup_fault_number setup.Depth = 8
setup_fault_number setup.ExtraPlane = 9
setup_fault_number setup.Subsampling = 10
setup_fault_number setup.GridTooFine = 11
setup_fault_number setup.TooManyTiles = 12
setup_fault_number setup.TableCount = 13
setup_fault_number setup.TableRun = 14
setup_fault_number setup.Contexts = 15
setup_fault_number setup.ParityMode = 16
setup_fault_number setup.Size = 17
setup_fault_number setup.Memory = 18

-- the number of a holding's fault
abbrev pub hold_fault_number : HoldFault → ℕ
hold_fault_number hold.OtherReel = 1
hold_fault_number hold.PayloadTooLong = 2
hold_fault_number hold.Memory = 3

-- the number of a holding file's fault
abbrev pub hold_file_fault_number : HoldFileFault → ℕ
hold_file_fault_number file.Magic = 1
hold_file_fault_number (file.Setup fault) = 2
hold_file_fault_number file.Truncated = 3
hold_file_fault_number file.Tag = 4
hold_file_fault_number file.Order = 5
hold_file_fault_number file.NotASlice = 6
hold_file_fault_number file.Trailing = 7
hold_file_fault_number file.Read = 8
hold_file_fault_number file.Write = 9
hold_file_fault_number file.Memory = 10
hold_file_fault_number file.TooLong = 11
hold_file_fault_number file.OtherReel = 12

-- the line that reports a frame's fault: its number, and its place in slices from the payload's front, or its tile
abbrev pub frame_fault_line : FrameFault → List ℕ
frame_fault_line frame.Chain = codes "frame fault 1"
frame_fault_line (frame.Slice place cause) = codes "frame fault 2 at " ++ decimal place
frame_fault_line (frame.Order place) = codes "frame fault 3 at " ++ decimal place
frame_fault_line (frame.Tile tile cause) = codes "frame fault 4 at " ++ decimal tile
frame_fault_line frame.Memory = codes "frame fault 5"

-- the number of a frame, and a place in it
abbrev pub place_in_frame : (number place : ℕ) → List ℕ
place_in_frame number place = decimal number ++ (codes " at " ++ decimal place)

-- the line that reports why the frame of this number gives no samples, with the place of the slice, in slices from the payload's front, or
-- the tile
abbrev pub samples_fault_line : ℕ → SamplesFault → List ℕ
samples_fault_line number samples.Chain = codes "samples fault 1 in frame " ++ decimal number
samples_fault_line number (samples.Slice place cause) = codes "samples fault 2 in frame " ++ place_in_frame number place
samples_fault_line number (samples.Overlap place) = codes "samples fault 3 in frame " ++ place_in_frame number place
samples_fault_line number (samples.Uncovered tile) = codes "samples fault 4 in frame " ++ place_in_frame number tile
samples_fault_line number (samples.Previous place) = codes "samples fault 5 in frame " ++ place_in_frame number place
samples_fault_line number (samples.Content place cause) = codes "samples fault 6 in frame " ++ place_in_frame number place
samples_fault_line number samples.Memory = codes "samples fault 7 in frame " ++ decimal number

-- the line that reports a fault, where this is the text of the path that it names
abbrev pub fault_line : List ℕ → CliFault → List ℕ
fault_line text (faults.Read path) = codes "cannot read " ++ text
fault_line text (faults.Write path) = codes "cannot write " ++ text
fault_line text (faults.Setup fault) = codes "setup fault " ++ decimal (setup_fault_number fault)
fault_line text (faults.Hold fault) = codes "hold fault " ++ decimal (hold_fault_number fault)
fault_line text (faults.HoldFile fault) = codes "holding file fault " ++ decimal (hold_file_fault_number fault)
fault_line text (faults.Frame fault) = frame_fault_line fault
fault_line text (faults.Samples number fault) = samples_fault_line number fault
fault_line text (faults.Missing tile) = codes "missing tile " ++ decimal tile
fault_line text (faults.Disputed tile) = codes "disputed tile " ++ decimal tile
fault_line text (faults.Splice path) = codes "cannot splice " ++ text
fault_line text (faults.Ranges line) = codes "ranges fault " ++ decimal line
fault_line text (faults.List line) = codes "list fault " ++ decimal line
fault_line text faults.Memory = codes "memory"
fault_line text faults.Words = codes "words refused"

-- a setup's fault as one of a command
abbrev pub of_setup : SetupFault → CliFault
of_setup setup.Memory = faults.Memory
of_setup fault = faults.Setup fault

-- a holding's fault as one of a command
abbrev pub of_hold : HoldFault → CliFault
of_hold hold.Memory = faults.Memory
of_hold fault = faults.Hold fault

-- a holding file's fault as one of a command, of which the file is this path
abbrev pub of_hold_file : CommandPath → HoldFileFault → CliFault
of_hold_file path file.Read = faults.Read path
of_hold_file path file.Write = faults.Write path
of_hold_file path file.Memory = faults.Memory
of_hold_file path fault = faults.HoldFile fault

-- the fault of two holding files that are joined as streams as one of a command
abbrev pub of_merge : HoldFileFault → CliFault
of_merge file.Read = faults.Read paths.Inputs
of_merge file.Write = faults.Write paths.Out
of_merge file.Memory = faults.Memory
of_merge fault = faults.HoldFile fault

-- the fault of a pass over the copies of a file as one of a command
abbrev pub of_mend : MendFault → CliFault
of_mend (mend.Read copy) = faults.Read (paths.Copy copy)
of_mend mend.Out = faults.Write paths.Out
of_mend mend.Output = faults.Write paths.StandardOutput
of_mend mend.Memory = faults.Memory

-- why frames were not all played, as a fault of a command
abbrev pub of_play : PlayFault → CliFault
of_play (play.Read place) = faults.Read (paths.Copy place)
of_play (play.Samples number fault) = faults.Samples number fault
of_play play.Out = faults.Write paths.Out
of_play play.Output = faults.Write paths.StandardOutput
of_play play.Memory = faults.Memory

-- why the file FILE was not read on, as a fault of a command
abbrev pub of_reader : ReaderFault → CliFault
of_reader reader.Read = faults.Read paths.File
of_reader reader.Memory = faults.Memory

-- a frame's fault as one of a command
abbrev pub of_frame : FrameFault → CliFault
of_frame frame.Memory = faults.Memory
of_frame fault = faults.Frame fault

-- a refusal to restore as a fault of a command
abbrev pub of_restore : RestoreFault → CliFault
of_restore (restore.Missing tile) = faults.Missing tile
of_restore (restore.Disputed tile) = faults.Disputed tile
of_restore restore.Memory = faults.Memory

abbrev pub exit_status_of : CliFault → ℕ
exit_status_of faults.Words = 2
exit_status_of _ = 1
