-- What `take` does with one copy.
use Rattle.std.specs.Prelude.{ℕ, ◌≡◌, ◌+◌, ◌-◌, ◌++◌, Bool, List, length, Result, Ok, Err}
use Rattle.ffv1_slice.specs.Walk.{links_of}
use Rattle.ffv1_slice.specs.Slices.{found_slices}
use Rattle.ffv1_holding.specs.Sets as set
use Rattle.ffv1_holding.specs.Contents.{Contents, with_found}
use Rattle.ffv1_holding.specs.declared.recordings.Recordings.{Recordings}
use Rattle.ffv1_devices.specs.Logs.{ReadLog}
use Rattle.ffv1_commands.specs.Devices.{TakesWhole, CopyStops}
use Rattle.ffv1_commands.specs.declared.fault.CliFault.{CliFault}
use Rattle.ffv1_commands.specs.declared.path.CommandPath.TheVariants as paths
use Rattle.ffv1_commands.specs.TakeText.{is_reported_in_order, copy_line}

-- A copy, which was read so, was taken, and a line with this number was added.
pub record TakesOne (recordings : Recordings) (IsRead : List ℕ → Type 0) (number : ℕ) (old new : Contents) (before after : List ℕ) (in_order : Bool) : Type 0 where
  pub copy : List ℕ
  pub read : IsRead copy
  pub held : new ≡ with_found old copy
  pub line : after ≡ before ++ copy_line number (length (links_of copy)) (length (found_slices old.reel.rules copy)) (set.size new.slices - set.size old.slices)
      in_order
  pub order : in_order ≡ is_reported_in_order recordings old.reel copy

-- A copy was read whole and taken, and its line was added, after so many others, or it was not read.
abbrev pub TakesCopy : Recordings → Result Bool CliFault → (before : ℕ) → (held_old held_new : Contents) → (lines_old lines_new : List ℕ)
    → (copy_old copy_new : ReadLog) → Type 0
TakesCopy recordings (Ok in_order) before held_old held_new lines_old lines_new copy_old copy_new =
    TakesOne recordings (TakesWhole copy_old copy_new) (before + 1) held_old held_new lines_old lines_new in_order
TakesCopy recordings (Err fault) before held_old held_new lines_old lines_new copy_old copy_new = CopyStops (paths.Copy before) fault copy_old copy_new
