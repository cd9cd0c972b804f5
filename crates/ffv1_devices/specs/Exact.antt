-- Reads of just so many bytes.
use Rattle.std.specs.Prelude.{ℕ, ◌≡◌, ◌+◌, ◌<◌, ◌≤◌, ◌⊎◌, max, List, length, take, Result, Ok, Err}
use Rattle.std.specs.Io.KnownBytes.{IsAtEnd}
use Rattle.ffv1_devices.specs.declared.exact.NextFault.{NextFault}
use Rattle.ffv1_devices.specs.declared.exact.NextFault.TheVariants as faults
use Rattle.ffv1_devices.specs.declared.exact.TheConstants.{BLOCK}
use Rattle.ffv1_devices.specs.Logs.{ReadLog, Reads, BreaksOff}

-- these bytes were read, and then the source ended or was given up
abbrev pub StopsReading : ReadLog → ReadLog → List ℕ → Type 0
StopsReading old new bytes = BreaksOff old new bytes ⊎ (Reads old new bytes × IsAtEnd new.remaining)

-- fewer bytes than so many were read, and then the source ended or was given up
abbrev pub EndsBefore : ℕ → ReadLog → ReadLog → Type 0
EndsBefore size old new = (bytes : List ℕ) × StopsReading old new bytes × (length bytes < size)

-- a buffer of this size was filled, or the source ended before that
abbrev pub Fills : {T E : Type 0} → ℕ → Result T E → List ℕ → ReadLog → ReadLog → Type 0
Fills size (Ok x) buf old new = Reads old new buf
Fills size (Err e) buf old new = EndsBefore size old new

-- so many bytes were passed over, or the source ended before that
abbrev pub PassesOver : {T E : Type 0} → ℕ → Result T E → ReadLog → ReadLog → Type 0
PassesOver size (Ok x) old new = (bytes : List ℕ) × Reads old new bytes × (length bytes ≡ size)
PassesOver size (Err e) old new = EndsBefore size old new

-- The next bytes, so many, came to the front of the room; or the source ended before that; or fewer came, and then memory was refused.
abbrev pub ReadsNext : {T : Type 0} → ℕ → Result T NextFault → List ℕ → ReadLog → ReadLog → Type 0
ReadsNext size (Ok x) room old new = Reads old new (take size room) × (size ≤ length room)
ReadsNext size (Err faults.Read) room old new = EndsBefore size old new
ReadsNext size (Err faults.Memory) room old new = (bytes : List ℕ) × Reads old new bytes × (length bytes < size)

-- the size of a block: room is made for at least so many bytes at once
abbrev pub block : ℕ
block = BLOCK

-- Room for bytes that are read grew as they came, from one length to another: it is as long as it was, or these bytes came and it has
-- at most as many more than they are, or a block more. Whatever size is claimed, it takes no more.
abbrev pub GrowsAsRead : (before after : ℕ) → (old new : ReadLog) → Type 0
GrowsAsRead before after old new =
    (after ≤ before) ⊎ ((bytes : List ℕ) × (Reads old new bytes ⊎ BreaksOff old new bytes) × (after ≤ length bytes + max (length bytes) block))
