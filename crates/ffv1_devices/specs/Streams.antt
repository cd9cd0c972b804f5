-- One try of a device, and how it is counted.
use Rattle.std.specs.Prelude.{ℕ, ◌≡◌, ◌≢◌, ◌+◌, ◌-◌, ◌^◌, ◌<◌, List, length, Bool, true, false, is_err, Result, Ok, Err, nat_lt, ◌==◌, if◌then◌else◌, MatchResult}
use Rattle.std.specs.Io.KnownBytes.{ReadConsumes, WriteAppends}
use Rattle.std.specs.IoError.{error_kind}
use Rattle.std.specs.declared.io.Error.{Error}
use Rattle.std.specs.declared.io.ErrorKind.TheVariants.{Interrupted}
use Rattle.ffv1_devices.specs.declared.failures.Failures.{Failures}
use Rattle.ffv1_devices.specs.declared.streams.FromRead.{FromRead}
use Rattle.ffv1_devices.specs.declared.streams.ThroughWrite.{ThroughWrite}
use Rattle.ffv1_devices.specs.Logs.{Tries, ReadLog, WriteLog, sum_to_limit}

-- the count after a try, which stays once it stands at `u64::MAX`
abbrev pub failures_after : Bool → ℕ → ℕ
failures_after failed n = if failed then (if nat_lt n (2 ^ 64 - 1) then n + 1 else n) else n

-- a write failed, or took none of some bytes
abbrev pub takes_none : {E : Type 0} → Result ℕ E → List ℕ → Bool
takes_none (Err e) buf = true
takes_none (Ok n) buf = if n == 0 then nat_lt 0 (length buf) else false

-- a read failed, and was not interrupted
abbrev pub IsBrokenRead : Result ℕ Error → Type 0
IsBrokenRead (Ok n) = ⊥
IsBrokenRead (Err e) = error_kind e ≢ Interrupted

-- a write failed, and was not interrupted, or took none of some bytes
abbrev pub IsBrokenWrite : Result ℕ Error → List ℕ → Type 0
IsBrokenWrite (Ok n) buf = (n ≡ 0) × (0 < length buf)
IsBrokenWrite (Err e) buf = error_kind e ≢ Interrupted

-- One try was counted: whether it failed, and whether that was no interruption. Each that was not interrupted ends a row of interrupted ones.
pub record CountsTry (failed : Bool) (Broken : Type 0) (old new : Tries) : Type 0 where
  pub failures' : new.failures ≡ failures_after failed old.failures
  pub broken' : Broken → (new.broken ≡ failures_after true old.broken) × (new.in_row ≡ 0)
  pub unbroken : ¬ Broken → (new.broken ≡ old.broken) × (new.in_row ≡ (if failed then failures_after true old.in_row else 0))

-- One try of reading: what came to the front of the buffer, and how it was counted.
pub record TriesRead (result : Result ℕ Error) (buf : List ℕ) (old new : ReadLog) : Type 0 where
  pub bytes : ReadConsumes old.remaining new.remaining result buf
  pub taken' : MatchResult result (λ n. new.taken ≡ sum_to_limit old.taken n) (λ _. new.taken ≡ old.taken)
  pub tries' : CountsTry (is_err result) (IsBrokenRead result) old.tries new.tries

-- One try of writing: how many of the bytes were taken, and how it was counted.
pub record TriesWrite (result : Result ℕ Error) (buf : List ℕ) (old new : WriteLog) : Type 0 where
  pub bytes : WriteAppends old.contents new.contents result buf
  pub same : new.reference ≡ old.reference
  pub tries' : CountsTry (takes_none result buf) (IsBrokenWrite result buf) old.tries new.tries

-- what a device's own counts say of its tries
abbrev pub tries_of : Failures → Tries
tries_of f = record { failures = f.failed; broken = f.broken; in_row = f.in_row }

-- no try has failed yet
abbrev pub no_failures : Tries
no_failures = record { failures = 0; broken = 0; in_row = 0 }

-- the reader of a source
abbrev pub reader_of : {R : Type 0} → FromRead R → R
reader_of s = s.reader

-- the writer that is borrowed
abbrev pub writer_of : {W : Type 0} → ThroughWrite W → W
writer_of s = s.writer.now
