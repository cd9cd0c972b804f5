-- What restoring a holding file does to the outputs.
use Rattle.std.proofs.Common.{◌≡◌, ℕ, List, length, Result, Ok, Err, inl, inr, refl, ap, ◌∙◌, subst, arith}
use Rattle.ffv1_holding.specs.declared.recordings.Recordings.{Recordings}
use Rattle.ffv1_devices.specs.Logs.{ReadLog, WriteLog, Writes}
use Rattle.ffv1_holding.specs.Contents.{Contents}
use Rattle.ffv1_hold.specs.FileFaults.{ReadsHolding}
use Rattle.ffv1_holding.specs.TileState.{AreSettled, restored_payload}
use Rattle.ffv1_holding.specs.Refusals.{IsRefusal}
use Rattle.ffv1_holding.specs.declared.restore.RestoreFault.{RestoreFault}
use Rattle.ffv1_holding.specs.declared.restore.RestoreFault.TheVariants as refusals
use Rattle.ffv1_commands.specs.Devices.{BothStop}
use Rattle.ffv1_commands.specs.Inner.Devices.{WritesBoth}
use Rattle.ffv1_commands.specs.Fault.{of_restore}
use Rattle.ffv1_commands.specs.Paths.{IsHoldPath}
use Rattle.ffv1_commands.specs.RestoreText.{restored_line, RestoresFile, RestoreStops, RestoreRefuses, ReportsRestore}
use Rattle.ffv1_commands.specs.declared.fault.CliFault.{CliFault}
use Rattle.ffv1_commands.specs.declared.fault.CliFault.TheVariants as faults
use Rattle.ffv1_commands.proofs.HeldFiles.{held_file}
use Rattle.ffv1_commands.proofs.OfBytes.{OfBytes, unread_bytes, unwritten_bytes}
use Rattle.ffv1_commands.proofs.WrittenBoth.{both_says}

pub of_restore-says : (P : CliFault → Type 0) (fault : RestoreFault) → ((tile : ℕ) → P (faults.Missing tile)) → ((tile : ℕ) → P (faults.Disputed tile))
    → P faults.Memory → P (of_restore fault)
of_restore-says P (refusals.Missing tile) missing disputed memory = missing tile
of_restore-says P (refusals.Disputed tile) missing disputed memory = disputed tile
of_restore-says P refusals.Memory missing disputed memory = memory

-- a holding that isn't settled is refused as it stands
pub refused_at : (h : Contents) (out output : WriteLog) (fault : RestoreFault) → IsRefusal h fault → RestoreRefuses h out out output output (of_restore fault)
refused_at h out output (refusals.Missing tile) refused = (refused, (refl, refl))
refused_at h out output (refusals.Disputed tile) refused = (refused, (refl, refl))
refused_at h out output refusals.Memory refused = (refused, (refl, refl))

module _ (recordings : Recordings) (file file' : ReadLog) (out out' output output' : WriteLog) (h : Contents) (payload line : List ℕ) (read : ReadsHolding recordings file file' h)
    (settled : AreSettled h) (is : payload ≡ restored_payload h) (reported : line ≡ restored_line (length payload)) where
  line_is : line ≡ restored_line (length (restored_payload h))
  line_is = reported ∙ ap (λ p. restored_line (length p)) is

  -- the payload and the line were written, or not whole
  pub restored : {T : Type 0} (r : Result T CliFault) → WritesBoth r payload line out out' output output'
      → ReportsRestore recordings r file file' out out' output output'
  restored (Ok x) (wrote, printed) =
      (h, read, settled, subst (Writes out out') is wrote, subst (Writes output output') line_is printed)
  restored (Err f) stops = inr (
    h,
    read,
    both_says payload line out out' output output' (RestoreRefuses h out out' output output') (λ named at.
        let whole = subst (λ (p : List ℕ). BothStop (faults.Write named) p line out out' output output') is at in
        (settled, subst (λ (l : List ℕ). BothStop (faults.Write named) (restored_payload h) l out out' output output') line_is whole)) f stops,
  )

-- ---- the same of bytes

module _ (recordings : Recordings) (file file' : ReadLog) (out out' output output' : WriteLog) where
  abbrev Stops : CliFault → Type 0
  Stops fault = RestoreStops recordings file.remaining out.contents out'.contents output.contents output'.contents fault

  module _ {T : Type 0} where
    abbrev Did : T → Type 0
    Did x = RestoresFile recordings file.remaining out.contents out'.contents output.contents output'.contents

    refused_bytes : (h : Contents) → ReadsHolding recordings file file' h → (f : CliFault) → RestoreRefuses h out out' output output' f → OfBytes Did Stops IsHoldPath (Err f)
    refused_bytes h read (faults.Missing tile) (refused, kept) = record { ok = tt; err = (h, held_file _ file file' h read, refused); names = tt }
    refused_bytes h read (faults.Disputed tile) (refused, kept) = record { ok = tt; err = (h, held_file _ file file' h read, refused); names = tt }
    refused_bytes h read faults.Memory (settled, kept) = record { ok = tt; err = tt; names = tt }
    refused_bytes h read (faults.Write named) (settled, stops) =
        let payload = restored_payload h in
        unwritten_bytes Did Stops IsHoldPath payload (restored_line (length payload)) out out' output output' tt tt
        (λ named at. (h, held_file _ file file' h read, settled, at)) named stops
    refused_bytes h read fault stops = absurd stops

    pub restore_of_bytes : (r : Result T CliFault) → ReportsRestore recordings r file file' out out' output output' → OfBytes Did Stops IsHoldPath r
    restore_of_bytes (Ok x) (h, read, settled, wrote, printed) = record {
      ok = record { held = h; file = held_file _ file file' h read; settled = settled; payload = wrote.bytes'; printed = printed.bytes' };
      err = tt;
      names = tt;
    }
    restore_of_bytes (Err f) (inl (stops, kept)) = unread_bytes Did Stops IsHoldPath recordings file file' f (omega arith) refl tt (λ fault shown. shown) stops
    restore_of_bytes (Err f) (inr (h, read, refuses)) = refused_bytes h read f refuses
