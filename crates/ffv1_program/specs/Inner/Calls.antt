-- How the call of one command says what it returns, and what it has no part in, as `run` says it of all.
use Rattle.std.specs.Prelude.{ℕ, ◌≡◌, List, Bool, true, None, Result, Ok, Err}
use Rattle.ffv1_devices.specs.Logs.{ReadLog}
use Rattle.ffv1_commands.specs.declared.fault.CliFault.{CliFault}
use Rattle.ffv1_program.specs.Running.{Written}

-- what a command returns that has no more to say than that it was done
abbrev pub all_done : Result (Unit {0}) CliFault → Result Bool CliFault
all_done (Ok done) = Ok true
all_done (Err fault) = Err fault

-- what stands for the file that is made, or for what is printed, where the command has no part in it
abbrev pub nothing_written : Written
nothing_written = record { before = None; after = None; IsKept = Unit {0}; IsMade = Unit {0}; CannotBeMade = Unit {0}; IsGivenUp = ⊥ }

-- a source of the file of this word has this log
abbrev pub IsLogAt : {Device : Type 0} → (is_at : List ℕ → Device → Type 0) → (log : Device → ReadLog) → List ℕ → ReadLog → Type 0
IsLogAt {Device} is_at log word is = (device : Device) × is_at word device × (log device ≡ is)
