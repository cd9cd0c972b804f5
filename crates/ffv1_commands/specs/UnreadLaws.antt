-- The laws of inputs that could not be read: for inputs that are read as they were written, and are not too long or too short, a device failed.
use Rattle.std.specs.Prelude.{ℕ, ◌≡◌, ◌≤◌, List, length, map, Some, Err}
use Rattle.std.specs.List.{AllZip}
use Rattle.ffv1_bits.specs.Limits.{payload_limit}
use Rattle.ffv1_devices.specs.Logs.{ReadLog, WriteLog}
use Rattle.ffv1_stretches.specs.Listed.{AreStretches}
use Rattle.ffv1_stretches.specs.Stretches.{StretchValue, ends_of}
use Rattle.ffv1_commands.specs.Devices.{IsGivenUp, IsUnread}
use Rattle.ffv1_commands.specs.InTurn.{WentAt}
use Rattle.ffv1_commands.specs.MendText.{ReportsMend}
use Rattle.ffv1_commands.specs.declared.fault.CliFault.TheVariants as faults
use Rattle.ffv1_commands.specs.declared.path.CommandPath.TheVariants as paths

-- An input of at most 2^30 bytes is unread only if its source was given up.
abbrev pub UnreadIsGivenUp : Type 0
UnreadIsGivenUp =
    (bytes : List ℕ) (old new : ReadLog) → old.remaining ≡ Some bytes → length bytes ≤ payload_limit → IsUnread old new → IsGivenUp old new

-- Of copies that are as long as the list asks, `mend` says that one was not read only if its source was given up.
abbrev pub LongCopyIsGivenUp : Type 0
LongCopyIsGivenUp =
    (list : List ℕ) (copies : List (List ℕ)) (stretches : List StretchValue) (list_old list_new : ReadLog) (old new : List ReadLog)
    (out_old out_new output_old output_new : WriteLog) (place : ℕ)
    → AreStretches (length copies) list stretches → AllZip (λ end copy. end ≤ length copy) (ends_of (length copies) stretches) copies
    → list_old.remaining ≡ Some list → map (λ log. log.remaining) old ≡ map Some copies
    → ReportsMend (Err (faults.Read (paths.Copy place))) list_old list_new old new out_old out_new output_old output_new
    → WentAt IsGivenUp place old new
