-- What the program does with the words that it is given: it runs the command that they name, ends with the status of what that returned, and
-- prints the line of a fault on standard error.
use Rattle.std.specs.Prelude.{ℕ, ◌≡◌, ◌⊎◌, ◌++◌, List, [], Bool, Result, Ok, Err, codes}
use Rattle.ffv1_devices.specs.Logs.{ReadLog, WriteLog, Writes, StopsWriting}
use Rattle.ffv1_holding.specs.declared.recordings.Recordings.{Recordings}
use Rattle.ffv1_commands.specs.Fault.{exit_status_of}
use Rattle.ffv1_commands.specs.declared.fault.CliFault.{CliFault}
use Rattle.ffv1_commands.specs.declared.fault.CliFault.TheVariants as faults
use Rattle.ffv1_words.specs.AnyWords.{SayRecordings}
use Rattle.ffv1_words.specs.Arguments.{AreReadFrom, RefusesAll}
use Rattle.ffv1_words.specs.declared.words.Words.{Words}
use Rattle.ffv1_program.specs.FilesAt.{FilesAt, FilesMade}
use Rattle.ffv1_program.specs.Running.{Written, RunsCommand, files_of, made_by, out_word}
use Rattle.ffv1_program.specs.Reporting.{end_status, reported_line, command_line}

-- A line was printed, or a front of it where its sink failed.
abbrev pub PrintsLine : List ℕ → (old new : WriteLog) → Type 0
PrintsLine line old new = Writes old new (line ++ codes "\n") ⊎ StopsWriting old new (line ++ codes "\n")

-- The line of a fault was printed, or that memory ran out, where it did so for the line.
abbrev pub ReportsFault : List ℕ → (old new : WriteLog) → Type 0
ReportsFault line old new = PrintsLine line old new ⊎ PrintsLine (reported_line [] faults.Memory) old new

-- what was printed on standard error of what a command returned: the line of a fault, and else nothing
abbrev pub ReportsEnd : Words → Result Bool CliFault → (old new : WriteLog) → Type 0
ReportsEnd words (Ok returned) old new = new ≡ old
ReportsEnd words (Err fault) old new = ReportsFault (command_line words fault) old new

-- The command of these words ran, on holdings of these recordings, with the file that it makes not made before; its end was reported, and the
-- status is that of its end.
pub record EndsWords {Device Buffered Made : Type 0} (files : FilesAt Device Buffered) (log : Device → ReadLog) (buffered_log : Buffered → ReadLog)
    (makes : FilesMade Made) (recordings : Recordings) (words : Words) (printed : Written) (errors_old errors_new : WriteLog) (status : ℕ)
    : Type 0 where
  pub made_old : Made
  pub made_new : Made
  pub result : Result Bool CliFault
  pub unmade : makes.is_unmade_at made_old (out_word words)
  pub runs : RunsCommand (files_of recordings files log buffered_log)
      (made_by makes.log makes.is_made makes.cannot_make made_old made_new) printed words result
  pub reported : ReportsEnd words result errors_old errors_new
  pub ended : status ≡ end_status result

-- Words that name no command, or for which memory ran out, were refused: nothing else was done.
pub record RefusesWords (arguments : List (List ℕ)) (printed : Written) (errors_old errors_new : WriteLog) (status : ℕ) : Type 0 where
  pub fault : CliFault
  pub refused : RefusesAll (AreReadFrom arguments) fault
  pub kept : printed.IsKept
  pub reported : ReportsFault (reported_line [] fault) errors_old errors_new
  pub ended : status ≡ exit_status_of fault

-- Of the words, the first of which is the program's own name, it was read of which recordings the command is; then the command that the others
-- name ran, or they were refused.
abbrev pub RunsProgram : {Device Buffered Made : Type 0} → FilesAt Device Buffered → (Device → ReadLog) → (Buffered → ReadLog) → FilesMade Made
    → (arguments : List (List ℕ)) → (printed : Written) → (errors_old errors_new : WriteLog) → (status : ℕ) → Type 0
RunsProgram files log buffered_log makes arguments printed errors_old errors_new status =
    (recordings : Recordings) × (left : List (List ℕ)) × SayRecordings arguments left recordings
    × (((words : Words) × AreReadFrom left words × EndsWords files log buffered_log makes recordings words printed errors_old errors_new status)
    ⊎ RefusesWords left printed errors_old errors_new status)
