-- How one entry that is merged moves the logs of its devices.
use Rattle.std.specs.Prelude.{ℕ, ◌≡◌, ◌+◌, Result, Ok, Err, length}
use Rattle.ffv1_devices.specs.Logs.{WriteLog, Writes}
use Rattle.ffv1_hold.specs.declared.file_fault.HoldFileFault.{HoldFileFault}
use Rattle.ffv1_hold.specs.declared.version.Version.TheVariants.{Second}
use Rattle.ffv1_hold.specs.HoldingText.{FileEntry, entry_text}
use Rattle.ffv1_hold.specs.Reading.{WentBefore}
use Rattle.ffv1_hold.specs.Inner.Merging.{EntryStops}
use Rattle.ffv1_hold.specs.MergeLogs.{is_write}

-- An entry was not written whole: there was no room for it, or the sink was given up.
pub record StopsEntry (old new : WriteLog) (room : ℕ) (e : FileEntry) (f : HoldFileFault) : Type 0 where
  pub stops : EntryStops old.contents new.contents room e f
  pub same : new.reference ≡ old.reference
  pub tries' : WentBefore (is_write f) old.tries new.tries

-- the entry was written, and the room for it is gone; or not whole
abbrev pub WritesEntry : {T : Type 0} → Result T HoldFileFault → WriteLog → WriteLog → (room left : ℕ) → FileEntry → Type 0
WritesEntry (Ok x) old new room left e = Writes old new (entry_text Second e) × (left + length (entry_text Second e) ≡ room)
WritesEntry (Err f) old new room left e = StopsEntry old new room e f
