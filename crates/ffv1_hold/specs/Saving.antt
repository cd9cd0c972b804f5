-- Which slices can be written, and which holdings have no text.
use Rattle.std.specs.Prelude.{◌≡◌, ◌<◌, ◌⊎◌, length, Result, Ok, Err}
use Rattle.ffv1_bits.specs.Limits.{record_limit, file_limit}
use Rattle.ffv1_devices.specs.Logs.{WriteLog, Writes, StopsWriting}
use Rattle.ffv1_holding.specs.Contents.{Contents}
use Rattle.ffv1_hold.specs.declared.version.Version.TheVariants.{Second}
use Rattle.ffv1_hold.specs.declared.file_fault.HoldFileFault.{HoldFileFault}
use Rattle.ffv1_hold.specs.declared.file_fault.HoldFileFault.TheVariants as faults
use Rattle.ffv1_hold.specs.HoldingText.{holding_text, file_entries, TellsMagic, FitsInFile}

-- the record or the text passes its limit
abbrev pub IsTooLong : Contents → Type 0
IsTooLong h = (record_limit < length h.reel.config) ⊎ (file_limit < length (holding_text h))

-- The file of a holding was written; or a front of it, before the sink was given up; or the holding has no file, as its first slice does not
-- tell its magic, or else as it is too long, and nothing was touched.
abbrev pub SavesFile : {T : Type 0} → Result T HoldFileFault → Contents → WriteLog → WriteLog → Type 0
SavesFile (Ok x) h old new = FitsInFile Second h × Writes old new (holding_text h)
SavesFile (Err faults.Write) h old new = (¬ IsTooLong h) × StopsWriting old new (holding_text h)
SavesFile (Err faults.TooLong) h old new = IsTooLong h × (new ≡ old)
SavesFile (Err faults.Magic) h old new = (¬ TellsMagic h.reel (file_entries h)) × (new ≡ old)
SavesFile (Err _) h old new = ⊥
