-- A planar pixel format as the table of the code has it.
use Rattle.std.specs.Prelude.{ℕ, List}
use Rattle.std.specs.Borrow.{Bor}
use Rattle.ffv1_commands.specs.Formats.{FormatValue, format}

abbrev pub value_of : ℕ × ℕ × ℕ × ℕ × Bor (List ℕ) × Bor (List ℕ) → FormatValue
value_of f = format f.0 f.1 f.2 f.3 f.4.now f.5.now
