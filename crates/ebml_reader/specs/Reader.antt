-- The items that a reader gives of a source, one after the other, and when it gives none (own).
use Rattle.std.specs.Prelude.{ℕ, ◌+◌, ◌≡◌, ◌≢◌, ◌<◌, ◌≤◌, ◌^◌, ◌⊎◌, Bool, false, IsTrue, List, [], ◌∷◌, ◌++◌, length, Option, Some, None, Result, Ok, Err}
use Rattle.std.specs.Io.KnownBytes.{IsAtEnd}
use Rattle.ffv1_bits.specs.Parity.{AreBytes}
use Rattle.ffv1_devices.specs.Logs.{ReadLog, Reads, BreaksOff}
use Rattle.ebml.specs.Items.{ItemValue, bytes_of_items, EachBefore, AreItems}
use Rattle.ebml.specs.declared.items.Kind.TheVariants.{Unknown}
use Rattle.ebml_reader.specs.declared.fault.ReaderFault.{ReaderFault}
use Rattle.ebml_reader.specs.declared.fault.ReaderFault.TheVariants as faults
use Rattle.ebml_reader.specs.declared.settled.FoundItem.{FoundItem}

-- a file of so many bytes or more is not read
abbrev pub limit : ℕ
limit = 2 ^ 62

-- Where so many bytes had been read: others were, and then the source was given up, or it had given too many; or memory was refused.
abbrev pub IsFault : ReaderFault → ℕ → ReadLog → ReadLog → Type 0
IsFault faults.Read taken old new = (bytes : List ℕ) × (BreaksOff old new bytes ⊎ (Reads old new bytes × (limit ≤ taken + length bytes)))
IsFault faults.Memory taken old new = (bytes : List ℕ) × Reads old new bytes

-- bytes that were read and not given yet, how many were read in all, and whether the source has ended
pub record Held : Type 0 where
  pub bytes : List ℕ
  pub taken : ℕ
  pub ended : Bool

abbrev pub nothing_held : Held
nothing_held = record { bytes = []; taken = 0; ended = false }

-- what a reader has: the bytes of the element that it gave last, and what was read and not given
pub record ReaderState : Type 0 where
  pub given : List ℕ
  pub held : Held

-- A reader has given these items of what was read since a source's log was `first`: they come first, and then what it holds. Whatever
-- follows that, nothing if the source has ended, each is an item.
pub record StandsAfter (first : ReadLog) (items : List ItemValue) (held : Held) (now : ReadLog) : Type 0 where
  pub reads : Reads first now (bytes_of_items items ++ held.bytes)
  pub are : AreBytes (bytes_of_items items ++ held.bytes)
  pub counted : held.taken ≡ length (bytes_of_items items ++ held.bytes)
  pub end : IsTrue held.ended → IsAtEnd now.remaining
  pub each : (more : List ℕ) → (IsTrue held.ended → more ≡ []) → EachBefore items (held.bytes ++ more)

-- The source has ended, and these are the items of all that was read.
pub record AreAllItems (first : ReadLog) (items : List ItemValue) (now : ReadLog) : Type 0 where
  pub reads : Reads first now (bytes_of_items items)
  pub are_bytes : AreBytes (bytes_of_items items)
  pub end : IsAtEnd now.remaining
  pub are : AreItems (bytes_of_items items) items

-- One item more was given, of so many bytes; those of an unknown one are let go.
pub record GivesItem (first : ReadLog) (items : List ItemValue) (found : FoundItem) (reading : ReaderState) (now : ReadLog) : Type 0 where
  pub bytes : List ℕ
  pub long : found.length ≡ length bytes
  pub given : found.kind ≢ Unknown → reading.given ≡ bytes
  pub none : found.kind ≡ Unknown → reading.given ≡ []
  pub few : reading.held.taken < 2 ^ 63
  pub stands : StandsAfter first (items ++ record { kind = found.kind; bytes = bytes } ∷ []) reading.held now

-- After these items, what a reader gives next.
abbrev pub GivesNext : ReadLog → List ItemValue → Result (Option FoundItem) ReaderFault → ReaderState → ReadLog → Type 0
GivesNext first items (Ok (Some found)) reading now = GivesItem first items found reading now
GivesNext first items (Ok None) reading now = AreAllItems first items now
GivesNext first items (Err fault) reading now = IsFault fault 0 first now
