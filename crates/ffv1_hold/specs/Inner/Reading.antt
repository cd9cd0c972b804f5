-- How the parts of a holding file are read.
use Rattle.std.specs.Prelude.{ℕ, ◌≡◌, ◌+◌, ◌<◌, ◌≤◌, List, length, Option, Result, Ok, Err}
use Rattle.std.specs.Io.KnownBytes.{Consumes}
use Rattle.ffv1_bits.specs.Limits.{file_limit}
use Rattle.ffv1_devices.specs.Logs.{ReadLog, GoesOn}
use Rattle.ffv1_hold.specs.declared.file_fault.HoldFileFault.{HoldFileFault}
use Rattle.ffv1_hold.specs.Reading.{StopsAt}

-- the bytes were taken, from the place on, and end within the limit
pub record Takes (old new : Option (List ℕ)) (from to : ℕ) (bytes : List ℕ) : Type 0 where
  pub taken : Consumes old new bytes
  pub moved : to ≡ from + length bytes
  pub within : to ≤ file_limit

-- no bytes are so, whatever the fault
abbrev pub Never : HoldFileFault → List ℕ → Type 0
Never f bytes = ⊥

-- fewer bytes than n
abbrev pub IsShorter : ℕ → List ℕ → Type 0
IsShorter n bytes = length bytes < n

-- The bytes were read off the source, from one place to another, and no others.
pub record TakesText (old new : ReadLog) (from to : ℕ) (bytes : List ℕ) : Type 0 where
  pub text : Takes old.remaining new.remaining from to bytes
  pub tries' : GoesOn old.tries new.tries
  pub few : new.taken + from ≤ old.taken + to

-- the text of what is returned was read off the source, or reading it stopped at the first fault
abbrev pub ReadsText : {T : Type 0} → (T → List ℕ) → (List ℕ → Type 0) → (W Q : HoldFileFault → List ℕ → Type 0) → ReadLog → ReadLog → (from to : ℕ)
    → Result T HoldFileFault → Type 0
ReadsText text P W Q old new from to (Ok x) = TakesText old new from to (text x)
ReadsText text P W Q old new from to (Err f) = StopsAt P W Q old new from f
