-- The next piece of what is held.
use Rattle.std.specs.Prelude.{ℕ, ◌≡◌, ◌<◌, ◌≤◌, ◌⊎◌, IsTrue, [], length, Result, Ok, Err}
use Rattle.ffv1_devices.specs.Logs.{ReadLog}
use Rattle.ebml_reader.specs.declared.fault.ReaderFault.{ReaderFault}
use Rattle.ebml_reader.specs.Reader.{Held, IsFault}
use Rattle.ebml_reader.specs.Intake.{Passes, IsBounded}
use Rattle.ebml_reader.specs.Pieces.{IsAllPassed}

-- one piece was read, or the source had ended
abbrev pub ReadsPiece : {T : Type 0} → Result T ReaderFault → Held → Held → ReadLog → ReadLog → Type 0
ReadsPiece (Ok x) old new before after = Passes [] old new before after × (IsTrue new.ended ⊎ (old.taken < new.taken))
ReadsPiece (Err fault) old new before after = IsFault fault old.taken before after

-- So many bytes are held, of these that may be at most.
pub record HasPiece (most n : ℕ) (old new : Held) (before after : ReadLog) : Type 0 where
  pub passes : Passes [] old new before after
  pub bounded : IsBounded new
  pub few : n ≤ most
  pub there : n ≤ length new.bytes
  pub none : n ≡ 0 → (most ≡ 0) ⊎ IsAllPassed new

abbrev pub FindsPiece : ℕ → Result ℕ ReaderFault → Held → Held → ReadLog → ReadLog → Type 0
FindsPiece most (Ok n) old new before after = HasPiece most n old new before after
FindsPiece most (Err fault) old new before after = IsFault fault old.taken before after
