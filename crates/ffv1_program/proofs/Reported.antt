-- What stands on standard error of a fault.
use Rattle.std.proofs.Common.{◌≡◌, List, ℕ, [], Result, Ok, Err, IfOk, MatchResult, inl, inr, subst}
use Rattle.ffv1_devices.specs.Logs.{WriteLog}
use Rattle.ffv1_commands.specs.declared.fault.CliFault.TheVariants as faults
use Rattle.ffv1_program.specs.Reporting.{reported_line}
use Rattle.ffv1_program.specs.Program.{PrintsLine, ReportsFault}

-- a line that is made of a fault, or for which memory ran out
pub reports_fault : {T E : Type 0} (bytes : T → List ℕ) (made : Result T E) (line : List ℕ) (old new : WriteLog) → IfOk made (λ text. bytes text ≡ line)
    → MatchResult made (λ text. PrintsLine (bytes text) old new) (λ _. PrintsLine (reported_line [] faults.Memory) old new) → ReportsFault line old new
reports_fault bytes (Ok text) line old new is printed = inl (subst (λ (all : List ℕ). PrintsLine all old new) is printed)
reports_fault bytes (Err failed) line old new is printed = inr printed
