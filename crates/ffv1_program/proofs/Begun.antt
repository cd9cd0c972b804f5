-- What `merge` left untouched before it began.
use Rattle.std.proofs.Common.{◌≡◌, List, ℕ, Option, Result, Ok, Err, IfErr, refl, inr}
use Rattle.ffv1_holding.specs.declared.recordings.Recordings.{Recordings}
use Rattle.ffv1_hold.specs.declared.file_fault.HoldFileFault.TheVariants as files
use Rattle.ffv1_commands.specs.MergeText.{IsMergeFault, MergeLeaves}
use Rattle.ffv1_commands.specs.declared.fault.CliFault.{CliFault}
use Rattle.ffv1_commands.specs.declared.fault.CliFault.TheVariants as faults
use Rattle.ffv1_commands.specs.declared.path.CommandPath.TheVariants as paths
use Rattle.ffv1_program.specs.Merging.{IfNotBegun, StopsMerging}

-- joining two files as streams names no input by itself, and keeps what it keeps where their heads differ
pub not_begun : {T : Type 0} (recordings : Recordings) (left right : Option (List ℕ)) (P : Type 0) (result : Result T CliFault)
    → IfErr result (IsMergeFault recordings left right) → (result ≡ Err (faults.HoldFile files.OtherReel) → P) → IfErr result (λ fault. IfNotBegun fault P)
not_begun recordings left right P (Ok value) is kept = tt
not_begun recordings left right P (Err (faults.Read (paths.Hold place))) is kept = cc
not_begun recordings left right P (Err (faults.HoldFile files.OtherReel)) is kept = kept refl
not_begun recordings left right P (Err fault) is kept = tt

-- joining two files as streams stopped
pub merging_stops : {T : Type 0} (recordings : Recordings) (refused : Type 0) (unopened : List ℕ → Type 0) (left_word right_word : List ℕ) (left right before after : Option (List ℕ))
    (result : Result T CliFault) → IfErr result (IsMergeFault recordings left right) → IfErr result (MergeLeaves left right before after)
    → IfErr result (StopsMerging recordings refused unopened left_word right_word left right before after)
merging_stops recordings refused unopened left_word right_word left right before after (Ok value) is leaves = tt
merging_stops recordings refused unopened left_word right_word left right before after (Err fault) is leaves = inr (inr (is, leaves))
