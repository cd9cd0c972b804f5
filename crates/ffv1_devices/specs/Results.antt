-- What the calls of this crate return, and how they move the log of their device.
use Rattle.std.specs.Prelude.{ℕ, ◌≡◌, ◌+◌, ◌<◌, ◌≤◌, List, [], ◌∷◌, length, take, Option, Some, None, Result, Ok, Err}
use Rattle.std.specs.Io.KnownBytes.{IsAtEnd}
use Rattle.ffv1_devices.specs.declared.whole.WholeFault.{WholeFault}
use Rattle.ffv1_devices.specs.declared.whole.WholeFault.TheVariants as faults
use Rattle.ffv1_devices.specs.Logs.{ReadLog, WriteLog, Reads, BreaksOff, Writes, StopsWriting}

-- some bytes came to the front of the buffer, none only at the end or with no room
abbrev pub ReadsSome : {E : Type 0} → Result ℕ E → List ℕ → ReadLog → ReadLog → Type 0
ReadsSome (Ok n) buf old new = Reads old new (take n buf) × (n ≡ 0 → 0 < length buf → IsAtEnd new.remaining)
ReadsSome (Err e) buf old new = BreaksOff old new []

-- the buffer was filled, or what stands at its front is all that was left; fewer bytes came before the source was given up
abbrev pub ReadsFull : {E : Type 0} → Result ℕ E → List ℕ → ReadLog → ReadLog → Type 0
ReadsFull (Ok n) buf old new = Reads old new (take n buf) × (n < length buf → IsAtEnd new.remaining)
ReadsFull (Err e) buf old new = (seen : List ℕ) × (length seen < length buf) × BreaksOff old new seen

-- a byte, or the end
abbrev pub ReadsByte : {E : Type 0} → Result (Option ℕ) E → ReadLog → ReadLog → Type 0
ReadsByte (Ok (Some b)) old new = Reads old new (b ∷ [])
ReadsByte (Ok None) old new = Reads old new [] × IsAtEnd new.remaining
ReadsByte (Err e) old new = BreaksOff old new []

-- All bytes up to the end, which are not more than the limit; or one more than the limit; or fewer, after which the source was given up
-- or memory ran out.
abbrev pub ReadsInput : {T : Type 0} → (T → List ℕ) → ℕ → Result T WholeFault → ReadLog → ReadLog → Type 0
ReadsInput items limit (Ok x) old new = Reads old new (items x) × IsAtEnd new.remaining × (length (items x) ≤ limit)
ReadsInput items limit (Err faults.TooLong) old new = (bytes : List ℕ) × Reads old new bytes × (length bytes ≡ limit + 1)
ReadsInput items limit (Err faults.Read) old new = (bytes : List ℕ) × BreaksOff old new bytes × (length bytes ≤ limit)
ReadsInput items limit (Err faults.Memory) old new = (bytes : List ℕ) × Reads old new bytes × (length bytes ≤ limit)

-- all of the bytes were written, or a front of them
abbrev pub WritesAll : {T E : Type 0} → Result T E → WriteLog → WriteLog → List ℕ → Type 0
WritesAll (Ok x) old new bytes = Writes old new bytes
WritesAll (Err e) old new bytes = StopsWriting old new bytes
