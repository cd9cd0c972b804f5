-- Why `merge` stopped, before its files are read and after that.
use Rattle.std.specs.Prelude.{ℕ, ◌≡◌, zero, suc, ◌⊎◌, List, Option}
use Rattle.ffv1_holding.specs.declared.recordings.Recordings.{Recordings}
use Rattle.ffv1_hold.specs.declared.file_fault.HoldFileFault.TheVariants as files
use Rattle.ffv1_commands.specs.MergeText.{IsMergeFault, MergeLeaves}
use Rattle.ffv1_commands.specs.declared.fault.CliFault.{CliFault}
use Rattle.ffv1_commands.specs.declared.fault.CliFault.TheVariants as faults
use Rattle.ffv1_commands.specs.declared.path.CommandPath.TheVariants as paths

-- The word of the file that is made is one of the words of both inputs.
abbrev pub IsEither : (out left right : List ℕ) → Type 0
IsEither out left right = (out ≡ left) ⊎ (out ≡ right)

-- One of both inputs was not opened: the fault is of the left one or of the right one, and `unopened` holds of the word of that one.
abbrev pub IsUnopened : (unopened : List ℕ → Type 0) → (left_word right_word : List ℕ) → CliFault → Type 0
IsUnopened unopened left_word right_word (faults.Read (paths.Hold zero)) = unopened left_word
IsUnopened unopened left_word right_word (faults.Read (paths.Hold (suc zero))) = unopened right_word
IsUnopened _ _ _ _ = ⊥

-- What holds of a fault that comes before the file is begun: of an input that was not opened, or of heads of another record or size.
abbrev pub IfNotBegun : CliFault → Type 0 → Type 0
IfNotBegun (faults.Read (paths.Hold place)) P = P
IfNotBegun (faults.HoldFile files.OtherReel) P = P
IfNotBegun _ P = Unit {0}

-- Why two files were not merged, and what that left in the file that is made: it is refused, as it is one of the inputs; or one of these was
-- not opened; or joining them stopped.
abbrev pub StopsMerging : Recordings → (refused : Type 0) → (unopened : List ℕ → Type 0) → (left_word right_word : List ℕ)
    → (left right out_before out_after : Option (List ℕ)) → CliFault → Type 0
StopsMerging recordings refused unopened left_word right_word left right out_before out_after fault =
    (refused × (fault ≡ faults.Write paths.Out)) ⊎ IsUnopened unopened left_word right_word fault
    ⊎ (IsMergeFault recordings left right fault × MergeLeaves left right out_before out_after fault)
