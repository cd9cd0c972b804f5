-- What `join` does with one holding file.
use Rattle.std.specs.Prelude.{ℕ, ◌≡◌, ◌+◌, ◌++◌, List, Result, Ok, Err}
use Rattle.ffv1_holding.specs.Contents.{Contents, IsSameReel, joined}
use Rattle.ffv1_holding.specs.declared.recordings.Recordings.{Recordings}
use Rattle.ffv1_devices.specs.Logs.{ReadLog}
use Rattle.ffv1_commands.specs.declared.fault.CliFault.{CliFault}
use Rattle.ffv1_commands.specs.declared.path.CommandPath.TheVariants as paths
use Rattle.ffv1_commands.specs.Holdings.{ReadsTaken}
use Rattle.ffv1_commands.specs.JoinText.{line_of_join, JoinBreaks}

-- The holding of a file, which was read so and as it is taken, was joined into another, and a line with this number was added.
pub record JoinsOne (IsRead : Contents → Type 0) (number : ℕ) (old new : Contents) (before after : List ℕ) : Type 0 where
  pub other : Contents
  pub file : IsRead other
  pub same : IsSameReel old other
  pub held : new ≡ joined old other
  pub line : after ≡ before ++ line_of_join number old other

-- A file was read and joined into a holding, and its line was added, after so many others; or it was not joined.
abbrev pub JoinsFile : {T : Type 0} → Recordings → Result T CliFault → (before : ℕ) → (whole_old whole_new : Contents) → (lines_old lines_new : List ℕ)
    → (file_old file_new : ReadLog) → Type 0
JoinsFile recordings (Ok x) before whole_old whole_new lines_old lines_new file_old file_new =
    JoinsOne (ReadsTaken recordings file_old file_new) (before + 1) whole_old whole_new lines_old lines_new
JoinsFile recordings (Err fault) before whole_old whole_new lines_old lines_new file_old file_new =
    JoinBreaks recordings (paths.Hold before) whole_old fault file_old file_new
