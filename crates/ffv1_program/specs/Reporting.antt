-- What the program reports of itself as it ends: its exit status, and the line of a fault.
use Rattle.std.specs.Prelude.{ℕ, ◌++◌, List, [], Bool, true, false, Option, Some, None, Result, Ok, Err, codes}
use Rattle.ffv1_commands.specs.Fault.{exit_status_of, fault_line, named_path}
use Rattle.ffv1_commands.specs.declared.fault.CliFault.{CliFault}
use Rattle.ffv1_commands.specs.declared.path.CommandPath.{CommandPath}
use Rattle.ffv1_words.specs.WordPaths.{path_word}
use Rattle.ffv1_words.specs.declared.words.Words.{Words}

-- 0 of what was done, 3 where something is missing or damaged, and of a fault its own
abbrev pub end_status : Result Bool CliFault → ℕ
end_status (Ok true) = 0
end_status (Ok false) = 3
end_status (Err fault) = exit_status_of fault

-- the word of the path that a fault names, if it names one
abbrev pub word_of : Words → Option CommandPath → List ℕ
word_of words (Some path) = path_word words path
word_of words None = []

-- the line of a fault, with the program's name, and this text of the path that it names
abbrev pub reported_line : List ℕ → CliFault → List ℕ
reported_line text fault = codes "ffv1restore: " ++ fault_line text fault

-- the line of a fault of the command of these words
abbrev pub command_line : Words → CliFault → List ℕ
command_line words fault = reported_line (word_of words (named_path fault)) fault
