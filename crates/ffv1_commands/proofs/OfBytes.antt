-- What a command says of the bytes of its devices, whichever command it is: what it did, or why it stopped and which of its paths that names.
use Rattle.std.proofs.Common.{List, ℕ, Result, Err, IfOk, IfErr, IfSome}
use Rattle.ffv1_devices.specs.Logs.{ReadLog, WriteLog}
use Rattle.ffv1_hold.specs.FileFaults.{IsFaultOf}
use Rattle.ffv1_hold.specs.declared.file_fault.HoldFileFault.{HoldFileFault}
use Rattle.ffv1_holding.specs.declared.recordings.Recordings.{Recordings}
use Rattle.ffv1_commands.specs.Devices.{BothStop, WriteStops}
use Rattle.ffv1_commands.specs.Fault.{NamesPath}
use Rattle.ffv1_commands.specs.Holdings.{HoldingStops}
use Rattle.ffv1_commands.specs.declared.fault.CliFault.{CliFault}
use Rattle.ffv1_commands.specs.declared.fault.CliFault.TheVariants as faults
use Rattle.ffv1_commands.specs.declared.path.CommandPath.{CommandPath}
use Rattle.ffv1_commands.specs.declared.path.CommandPath.TheVariants as paths
use Rattle.ffv1_commands.proofs.HeldFiles.{unread_file}
use Rattle.ffv1_commands.proofs.InputFaults.{IsHoldingFault-says}
use Rattle.ffv1_commands.proofs.WrittenBoth.{both_stop_bytes, both_name}

pub record OfBytes {T : Type 0} (Did : T → Type 0) (Stops : CliFault → Type 0) (IsPath : CommandPath → Type 0) (r : Result T CliFault) : Type 0 where
  pub ok : IfOk r Did
  pub err : IfErr r Stops
  pub names : IfErr r (NamesPath IsPath)

module _ {T : Type 0} (Did : T → Type 0) (Stops : CliFault → Type 0) (IsPath : CommandPath → Type 0) where
  -- its holding file was not read
  pub unread_bytes : (recordings : Recordings) (a b : ReadLog) (f : CliFault) → IsPath (paths.Hold 0) → Stops (faults.Read (paths.Hold 0)) → Stops faults.Memory
      → ((file : HoldFileFault) → IfSome a.remaining (λ bytes. IsFaultOf recordings bytes file) → Stops (faults.HoldFile file))
      → HoldingStops recordings (paths.Hold 0) f a b → OfBytes Did Stops IsPath (Err f)
  unread_bytes recordings a b f named read memory file stops =
      IsHoldingFault-says recordings (λ f. OfBytes Did Stops IsPath (Err f)) (paths.Hold 0) a.remaining f (record { ok = tt; err = read; names = named })
      (record { ok = tt; err = memory; names = tt }) (λ fault shown. record { ok = tt; err = file fault shown; names = tt })
      (unread_file recordings a b (paths.Hold 0) f stops)

  -- the file OUT and then a text were not written whole
  pub unwritten_bytes : (file text : List ℕ) (a b c d : WriteLog) → IsPath paths.Out → IsPath paths.StandardOutput
      → ((named : CommandPath) → WriteStops file text a.contents b.contents c.contents d.contents (faults.Write named) → Stops (faults.Write named))
      → (named : CommandPath) → BothStop (faults.Write named) file text a b c d → OfBytes Did Stops IsPath (Err (faults.Write named))
  unwritten_bytes file text a b c d out printed says named stops = record {
    ok = tt;
    err = says named (both_stop_bytes file text a b c d named stops);
    names = both_name file text a b c d IsPath out printed named stops;
  }
