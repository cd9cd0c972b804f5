-- What writing the file of a holding and then a text says of both.
use Rattle.std.proofs.Common.{◌≡◌, ℕ, List, Result, Ok, Err, IfErr, inl, inr, refl, sym, subst}
use Rattle.std.specs.Io.KnownBytes.{Appends, Keeps}
use Rattle.std.proofs.KnownBytes.{Keeps-refl}
use Rattle.ffv1_devices.specs.Logs.{WriteLog, Writes, StopsWriting}
use Rattle.ffv1_holding.specs.Contents.{Contents}
use Rattle.ffv1_hold.specs.HoldingText.{holding_text}
use Rattle.ffv1_hold.specs.declared.file_fault.HoldFileFault.{HoldFileFault}
use Rattle.ffv1_commands.specs.Inner.Devices.{WritesNamed}
use Rattle.ffv1_commands.specs.TakenFrames.{IsFiled}
use Rattle.ffv1_commands.specs.Holdings.{IsSavedFile, IsFileFault, SavingBreaks, MadeBreaks}
use Rattle.ffv1_commands.specs.Inner.Holdings.{MadeStops, WritesMade}
use Rattle.ffv1_commands.specs.declared.fault.CliFault.{CliFault}
use Rattle.ffv1_commands.specs.declared.fault.CliFault.TheVariants as faults
use Rattle.ffv1_commands.specs.declared.path.CommandPath.TheVariants as paths

-- what any fault of writing a holding's file says, if that of each form says so
SavingBreaks-says : (P : CliFault → Type 0) (h : Contents) (old new : WriteLog) (fault : CliFault)
    → ((file : HoldFileFault) → IsFileFault h (faults.HoldFile file) → new ≡ old → P (faults.HoldFile file))
    → ((filed : Contents) → IsFiled h filed → StopsWriting old new (holding_text filed) → P (faults.Write paths.Out)) → SavingBreaks h old new fault → P fault
SavingBreaks-says P h old new (faults.HoldFile file) none stopped (is, kept) = none file is kept
SavingBreaks-says P h old new (faults.Write path) none stopped (same, (filed, is, fits, stops)) =
    subst (λ p. P (faults.Write p)) (sym same) (stopped filed is stops)
SavingBreaks-says P h old new fault none stopped breaks = absurd breaks

module _ (h : Contents) (text : List ℕ) (a b c d : WriteLog) where
  -- the file was written, and then the text or a front of it
  pub then_printed : {T : Type 0} (r : Result T CliFault) (file : List ℕ) → IsSavedFile h file → Writes a b file
      → WritesNamed paths.StandardOutput r c d text → WritesMade r h text a b c d
  then_printed (Ok x) file saved wrote printed = record { file = file; saved = saved; written = wrote; printed = printed }
  then_printed (Err fault) file saved wrote (is, stopped) = inr (is, (file, saved, wrote, stopped))

  -- what any fault says, if those of the file and of both outputs say so
  pub made_says : (P : CliFault → Type 0) → ((file : HoldFileFault) → P (faults.HoldFile file)) → P (faults.Write paths.Out)
      → P (faults.Write paths.StandardOutput) → (fault : CliFault) → MadeBreaks h text a b c d fault → P fault
  made_says P none out printed fault (inl (saving, kept)) = SavingBreaks-says P h a b fault (λ file is same. none file) (λ filed is stopped. out) saving
  made_says P none out printed fault (inr stops) = subst P (sym stops.0) printed

  pub made_err : {T : Type 0} (P : CliFault → Type 0) → ((file : HoldFileFault) → P (faults.HoldFile file)) → P (faults.Write paths.Out)
      → P (faults.Write paths.StandardOutput) → (r : Result T CliFault) → WritesMade r h text a b c d → IfErr r P
  made_err P none out printed (Ok x) made = tt
  made_err P none out printed (Err fault) breaks = made_says P none out printed fault breaks

  -- the same fault by the bytes of both
  pub made_bytes : (fault : CliFault) → MadeBreaks h text a b c d fault → MadeStops h text a.contents b.contents c.contents d.contents fault
  made_bytes fault (inl (saving, kept)) =
      SavingBreaks-says (MadeStops h text a.contents b.contents c.contents d.contents) h a b fault (λ file is same. is)
      (λ filed of stopped.
      (filed, of, inl (refl, stopped.front, subst (λ (log : WriteLog). Keeps c.contents log.contents) (sym kept) (Keeps-refl c.contents)))) saving
  made_bytes fault (inr (is, (file, saved, wrote, stopped))) =
      let written = subst (Appends a.contents b.contents) saved.text wrote.bytes' in
      subst (MadeStops h text a.contents b.contents c.contents d.contents) (sym is)
      (saved.filed, saved.is_filed, inr (refl, written, stopped.front))
