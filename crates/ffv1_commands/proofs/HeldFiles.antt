-- What reading a holding file says of its bytes.
use Rattle.std.proofs.Common.{◌≡◌, refl, sym, subst}
use Rattle.std.proofs.KnownBytes.{Consumes-whole}
use Rattle.ffv1_holding.specs.declared.recordings.Recordings.{Recordings}
use Rattle.ffv1_devices.specs.Logs.{ReadLog}
use Rattle.ffv1_holding.specs.Contents.{Contents}
use Rattle.ffv1_hold.specs.HoldingText.{file_text}
use Rattle.ffv1_hold.specs.FileFaults.{ReadsHolding}
use Rattle.ffv1_commands.specs.Devices.{UnlessWriting}
use Rattle.ffv1_commands.specs.Holdings.{IsHoldingFile, IsTakenFile, IsHoldingFault, HoldingStops, ReadsTaken}
use Rattle.ffv1_commands.specs.declared.fault.CliFault.{CliFault}
use Rattle.ffv1_commands.specs.declared.path.CommandPath.{CommandPath}
use Rattle.ffv1_commands.specs.declared.path.CommandPath.TheVariants as paths
use Rattle.ffv1_commands.proofs.InputFaults.{IsUnwritten, untouched_one, IsHoldingFault-says}
use Rattle.ffv1_commands.proofs.Reporting.{hold_refused}

module _ (recordings : Recordings) (a b : ReadLog) where
  -- a file that was read whole is that of its holding
  pub held_file : (h : Contents) → ReadsHolding recordings a b h → IsHoldingFile recordings a.remaining h
  held_file h read =
      let text = file_text read.file.version h in
      record {
        version = read.file.version;
        text = Consumes-whole _ _ text (λ reported. reported ≡ text) read.file.taken read.at_end refl;
        well_formed = read.well_formed;
        taken = read.taken;
        fits = read.file.fits;
      }

  -- .. as it is taken
  pub taken_file : (taken : Contents) → ReadsTaken recordings a b taken → IsTakenFile recordings a.remaining taken
  taken_file taken (h, read, is) = (h, held_file h read, is)

  -- the fault of one that was not read
  pub unread_file : (path : CommandPath) (fault : CliFault) → HoldingStops recordings path fault a b → IsHoldingFault recordings path a.remaining fault
  unread_file path fault (f, is, stops) =
      subst (IsHoldingFault recordings path a.remaining) (sym is) (hold_refused _ path a.remaining b.remaining f stops.fault)

  -- it comes before anything is written
  unread_unwritten : (fault : CliFault) → HoldingStops recordings (paths.Hold 0) fault a b → IsUnwritten fault
  unread_unwritten fault stops =
      IsHoldingFault-says _ IsUnwritten (paths.Hold 0) a.remaining fault tt tt (λ file shown. tt) (unread_file (paths.Hold 0) fault stops)

  pub unread_one : {W : Type 0} (output : W) (fault : CliFault) → HoldingStops recordings (paths.Hold 0) fault a b → UnlessWriting fault (output ≡ output)
  unread_one output fault stops = untouched_one output fault (unread_unwritten fault stops)
