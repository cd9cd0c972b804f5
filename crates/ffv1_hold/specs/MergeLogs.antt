-- How joining two holding files as streams moves the logs of its devices (own).
use Rattle.std.specs.Prelude.{ℕ, ◌≡◌, ◌+◌, ◌≤◌, ◌⊎◌, Bool, true, false, Result, Ok, Err}
use Rattle.ffv1_bits.specs.Limits.{file_limit}
use Rattle.ffv1_devices.specs.Logs.{ReadLog, WriteLog, GoesOn}
use Rattle.ffv1_hold.specs.declared.file_fault.HoldFileFault.{HoldFileFault}
use Rattle.ffv1_hold.specs.declared.file_fault.HoldFileFault.TheVariants as faults
use Rattle.ffv1_hold.specs.Reading.{WentBefore, is_read}

-- both inputs and the sink
pub record Devices : Type 0 where
  pub left : ReadLog
  pub right : ReadLog
  pub sink : WriteLog

-- the sink is the fault
abbrev pub is_write : HoldFileFault → Bool
is_write faults.Write = true
is_write _ = false

-- No more was taken of either input than from one place to another, and the sink writes through the same reference.
pub record TakesAtMost (old new : Devices) (from to : ℕ × ℕ) : Type 0 where
  pub left' : new.left.taken + from.0 ≤ old.left.taken + to.0
  pub right' : new.right.taken + from.1 ≤ old.right.taken + to.1
  pub same : new.sink.reference ≡ old.sink.reference

-- no device was given up
pub record AllGoOn (old new : Devices) (from to : ℕ × ℕ) : Type 0 where
  pub left' : GoesOn old.left.tries new.left.tries
  pub right' : GoesOn old.right.tries new.right.tries
  pub sink' : GoesOn old.sink.tries new.sink.tries
  pub few : TakesAtMost old new from to

-- One input was given up where the fault is `Read`, and the sink where it is `Write`, and no other device.
pub record OneStops (f : HoldFileFault) (old new : Devices) (from : ℕ × ℕ) : Type 0 where
  pub inputs : (WentBefore (is_read f) old.left.tries new.left.tries × GoesOn old.right.tries new.right.tries)
      ⊎ (GoesOn old.left.tries new.left.tries × WentBefore (is_read f) old.right.tries new.right.tries)
  pub sink' : WentBefore (is_write f) old.sink.tries new.sink.tries
  pub few : TakesAtMost old new from (file_limit + 1, file_limit + 1)

-- how the devices went up to a result, and up to a fault
abbrev pub MergeWent : {T : Type 0} → Result T HoldFileFault → Devices → Devices → (from to : ℕ × ℕ) → Type 0
MergeWent (Ok x) old new from to = AllGoOn old new from to
MergeWent (Err f) old new from to = OneStops f old new from

-- ---- an entry
