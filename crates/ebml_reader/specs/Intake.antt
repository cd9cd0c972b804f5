-- What was read of a source and not passed yet, and how it goes on.
use Rattle.std.specs.Prelude.{ℕ, ◌+◌, ◌≡◌, ◌<◌, ◌≤◌, ◌^◌, ◌⊎◌, IsTrue, List, [], ◌++◌, length, Result, Ok, Err}
use Rattle.std.specs.Io.KnownBytes.{IsAtEnd}
use Rattle.ffv1_bits.specs.Parity.{AreBytes}
use Rattle.ffv1_devices.specs.Logs.{ReadLog, Reads}
use Rattle.ebml_reader.specs.declared.fault.ReaderFault.{ReaderFault}
use Rattle.ebml_reader.specs.Reader.{Held, IsFault}

-- Some bytes were read, and these passed. None are read after the end.
pub record Passes (passed : List ℕ) (old new : Held) (before after : ReadLog) : Type 0 where
  pub read : List ℕ
  pub reads : Reads before after read
  pub are : AreBytes read
  pub joined : old.bytes ++ read ≡ passed ++ new.bytes
  pub counted : new.taken ≡ old.taken + length read
  pub stays : IsTrue old.ended → (read ≡ []) × IsTrue new.ended
  pub end : (IsTrue old.ended → IsAtEnd before.remaining) → IsTrue new.ended → IsAtEnd after.remaining

-- so many bytes are there, or the source has ended
abbrev pub Has : ℕ → Held → Type 0
Has size held = IsTrue held.ended ⊎ (size ≤ length held.bytes)

-- how many there can be
pub record IsBounded (held : Held) : Type 0 where
  pub few : length held.bytes ≤ held.taken
  pub limit : held.taken < 2 ^ 63

abbrev pub FillsUp : {T : Type 0} → ℕ → Result T ReaderFault → Held → Held → ReadLog → ReadLog → Type 0
FillsUp size (Ok x) old new before after = Passes [] old new before after × Has size new × IsBounded new
FillsUp size (Err fault) old new before after = IsFault fault old.taken before after

-- this holds of all that is left of the file: what is held, and whatever follows it
abbrev pub Whatever : Held → (List ℕ → Type 0) → Type 0
Whatever held P = (more : List ℕ) → (IsTrue held.ended → more ≡ []) → P (held.bytes ++ more)
