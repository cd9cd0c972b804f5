-- How one stretch of a copy is read.
use Rattle.std.specs.Prelude.{ℕ, ◌≡◌, ◌+◌, ◌-◌, ◌<◌, ◌≤◌, List, ◌++◌, length, take, Result, Ok, Err}
use Rattle.ffv1_devices.specs.Logs.{Reads}
use Rattle.ffv1_devices.specs.Exact.{EndsBefore}
use Rattle.ffv1_devices.specs.declared.exact.NextFault.{NextFault}
use Rattle.ffv1_devices.specs.declared.exact.NextFault.TheVariants as faults
use Rattle.ffv1_stretches.specs.Copies.{CopyState}

-- After what stands before it, so many bytes were read at a place, and lie at the front of the room.
pub record ReadsStretch (place size : ℕ) (old new : CopyState) (more : List ℕ) : Type 0 where
  pub before : List ℕ
  pub here : List ℕ
  pub whole : more ≡ before ++ here
  pub gap : old.end + length before ≡ place
  pub long : length here ≡ size
  pub read : Reads old.log new.log more
  pub end' : new.end ≡ place + size
  pub held : take size new.room ≡ here
  pub fits : size ≤ length new.room

-- The copy's next stretch was read, of so many bytes at this place; or the copy ended or was given up before its end; or fewer bytes were
-- read, and then memory was refused.
abbrev pub ReadsCopy : {T : Type 0} → (place size : ℕ) → Result T NextFault → CopyState → CopyState → Type 0
ReadsCopy place size (Ok x) old new = (more : List ℕ) × ReadsStretch place size old new more
ReadsCopy place size (Err faults.Read) old new = EndsBefore (place - old.end + size) old.log new.log
ReadsCopy place size (Err faults.Memory) old new = (bytes : List ℕ) × Reads old.log new.log bytes × (length bytes < place - old.end + size)
