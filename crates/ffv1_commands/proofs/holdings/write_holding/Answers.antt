use Rattle.std.proofs.Common.{◌≡◌, Err, inl, inr, refl, sym, subst, rules}
use Rattle.std.specs.Result.{IsErrOf}
use Rattle.ffv1_devices.specs.Logs.{WriteLog, StopsWriting}
use Rattle.ffv1_holding.specs.Contents.{Contents, AreOwnEntries}
use Rattle.ffv1_holding.specs.Reels.{IsRecordReel}
use Rattle.ffv1_hold.specs.HoldingText.{holding_text}
use Rattle.ffv1_hold.specs.Saving.{IsTooLong, SavesFile}
use Rattle.ffv1_hold.specs.declared.file_fault.HoldFileFault.{HoldFileFault}
use Rattle.ffv1_hold.specs.declared.file_fault.HoldFileFault.TheVariants as files
use Rattle.ffv1_commands.specs.TakenFrames.{IsFiled}
use Rattle.ffv1_commands.proofs.holdings.write_holding.Goals as goal

-- what is filed has a magic
named : (h filed : Contents) (P : Type 0) → IsFiled h filed → (IsRecordReel filed.reel → ¬ P) → (¬ AreOwnEntries filed → ¬ P) → ¬ P
named h filed P (inl (entries, of, same)) own between = own of.0
named h filed P (inr (other, same)) own between = between (subst (λ (k : Contents). ¬ AreOwnEntries k) (sym same) other)

-- a fault other than the length is that of writing
stops_writing : (h : Contents) (fault : HoldFileFault) (old new : WriteLog) → ¬ (fault ≡ files.TooLong)
    → ¬ IsErrOf {T = Unit {0}} (Err fault) files.Magic
    → SavesFile {T = Unit {0}} (Err fault) h old new → (¬ IsTooLong h) × StopsWriting old new (holding_text h)
stops_writing h files.Write old new other magic saves = saves
stops_writing h files.TooLong old new other magic saves = absurd (other refl)
stops_writing h files.Magic old new other magic saves = absurd (magic refl)
stops_writing h fault old new other magic saves = absurd saves

pub returns-in-Ok : goal.returns-in-Ok
returns-in-Ok g c =
    let e = c.in-Ok.ensures in
    record {
      reported = λ h of. (
        holding_text c.args.filed.now,
        record { filed = c.args.filed.now; is_filed = of; has_file = record { well_formed = e.well_formed; fits = e.saved.0 }; text = refl },
        e.saved.1,
      );
      untouched = tt;
    }

pub returns-in-Err-TooLong-clause-reported : goal.returns-in-Err-TooLong-clause-reported
returns-in-Err-TooLong-clause-reported g c = λ h of.
    let saved = rw c.in-Err-TooLong.field-0-is at c.in-Err-TooLong.ensures.saved in
    ((refl, (c.args.filed.now, of, saved.0)), saved.1)

pub returns-in-Err : goal.returns-in-Err
returns-in-Err g c =
    let e = c.in-Err.ensures in
    let (first, filed) = c.requires.filed in
    let stops = stops_writing _ c.in-Err.field-0 _ _ (search rules) (named first c.args.filed.now _ filed e.own e.between) e.saved in
    record { reported = λ h of. (refl, (c.args.filed.now, of, stops.0, stops.1)); untouched = tt }
