-- Lines that are printed as they are found: what of them waits to be printed.
use Rattle.std.specs.Prelude.{ℕ, ◌≡◌, ◌++◌, List}
use Rattle.ffv1_devices.specs.Logs.{WriteLog, Writes}
use Rattle.ffv1_commands.specs.declared.lines.TheConstants.{ROOM, LONGEST_LINE}

-- how many bytes a text has room for, in which lines wait
abbrev pub room : ℕ
room = ROOM

-- no line is longer
abbrev pub longest_line : ℕ
longest_line = LONGEST_LINE

-- Of a text a front was written, and the rest waits.
pub record PrintsFront (before after : WriteLog) (waits text : List ℕ) : Type 0 where
  pub printed : List ℕ
  pub split : text ≡ printed ++ waits
  pub written : Writes before after printed
