-- What is known of a device, and how a step moves it.
use Rattle.std.specs.Prelude.{ℕ, ◌≡◌, ◌+◌, ◌-◌, ◌^◌, ◌<◌, ◌≤◌, ◌⊎◌, min, List, length, Option}
use Rattle.std.specs.Io.KnownBytes.{Consumes, Appends}
use Rattle.ffv1_devices.specs.declared.reads.TheConstants.{TRIES}
use Rattle.ffv1_devices.specs.Writing.{WritesFront}

-- How many tries of a device failed, interrupted ones among them, how many of these were not interrupted, and how many were
-- interrupted in a row, after the last try that was not. At `u64::MAX` a count rises no more.
pub record Tries : Type 0 where
  pub failures : ℕ
  pub broken : ℕ
  pub in_row : ℕ

-- The log of a source: the bytes that are left, if they are known, how its tries went, and how many bytes were taken,
-- `u64::MAX` for more.
pub record ReadLog : Type 0 where
  pub remaining : Option (List ℕ)
  pub tries : Tries
  pub taken : ℕ

-- The log of a sink: the bytes that it holds, if they are known, how its tries went, and which reference it writes through,
-- where it borrows its writer.
pub record WriteLog : Type 0 where
  pub contents : Option (List ℕ)
  pub tries : Tries
  pub reference : ℕ

-- a sum that stays at `u64::MAX`
abbrev pub sum_to_limit : ℕ → ℕ → ℕ
sum_to_limit a b = min (a + b) (2 ^ 64 - 1)

-- a failure was counted, or the count stands at `u64::MAX`
abbrev pub HasFailed : ℕ → ℕ → Type 0
HasFailed old new = (old < new) ⊎ (2 ^ 64 - 1 ≤ new)

-- at least so many more were counted, or the count stands at `u64::MAX`
abbrev pub HasCounted : (n old new : ℕ) → Type 0
HasCounted n old new = (old + n ≤ new) ⊎ (2 ^ 64 - 1 ≤ new)

-- So many bytes were counted, up to `u64::MAX`.
pub record CountsBytes (n old new : ℕ) : Type 0 where
  pub least : HasCounted n old new
  pub most : new ≤ old + n

-- how many interrupted tries in a row are a failure
abbrev pub most_tries : ℕ
most_tries = TRIES

-- ---- how the tries went in a step

-- No try failed but interrupted ones, and the last one succeeded, or there was none.
pub record GoesOn (old new : Tries) : Type 0 where
  pub counted : old.failures ≤ new.failures
  pub unbroken : new.broken ≡ old.broken
  pub last : (new.in_row ≡ 0) ⊎ (new ≡ old)

-- The device was given up: at the first failure that was no interruption, or after that many in a row that were.
pub record GivesUp (old new : Tries) : Type 0 where
  pub counted : old.failures ≤ new.failures
  pub failed : HasFailed old.failures new.failures
  pub gave_up : HasFailed old.broken new.broken ⊎ (HasCounted most_tries old.failures new.failures × (most_tries ≤ new.in_row))
  pub broken_once : new.broken ≤ old.broken + 1

-- ---- steps

-- These bytes were read, while the tries went so.
pub record ReadsWhile (Went : Tries → Tries → Type 0) (old new : ReadLog) (bytes : List ℕ) : Type 0 where
  pub bytes' : Consumes old.remaining new.remaining bytes
  pub taken' : CountsBytes (length bytes) old.taken new.taken
  pub tries' : Went old.tries new.tries

-- these bytes were read
abbrev pub Reads : ReadLog → ReadLog → List ℕ → Type 0
Reads = ReadsWhile GoesOn

-- these bytes were read, and then the source was given up
abbrev pub BreaksOff : ReadLog → ReadLog → List ℕ → Type 0
BreaksOff = ReadsWhile GivesUp

-- These bytes were written.
pub record Writes (old new : WriteLog) (bytes : List ℕ) : Type 0 where
  pub bytes' : Appends old.contents new.contents bytes
  pub same : new.reference ≡ old.reference
  pub tries' : GoesOn old.tries new.tries

-- A front of these bytes was written, none or all of them among it, and then the sink was given up.
pub record StopsWriting (old new : WriteLog) (bytes : List ℕ) : Type 0 where
  pub front : WritesFront old.contents new.contents bytes
  pub same : new.reference ≡ old.reference
  pub tries' : GivesUp old.tries new.tries
