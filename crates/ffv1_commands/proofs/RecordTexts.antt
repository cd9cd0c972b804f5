-- What printing a text of a record does to the output, and what it says of the bytes.
use Rattle.std.proofs.Common.{◌≡◌, ℕ, ◌≤◌, List, length, Option, IfSome, Result, Ok, Err, OnOk, IfErr, refl, sym, subst}
use Rattle.std.specs.Io.KnownBytes.{Keeps}
use Rattle.std.proofs.KnownBytes.{Consumes-whole, Keeps-refl}
use Rattle.ffv1_bits.specs.Limits.{payload_limit}
use Rattle.ffv1_range.specs.Setup.{IsSetupOf, IsRecordingOf}
use Rattle.ffv1_range.specs.SetupFaults.{FirstSetupFault, FirstRecordingFault}
use Rattle.ffv1_range.specs.declared.fault.SetupFault.{SetupFault}
use Rattle.ffv1_devices.specs.Logs.{ReadLog, WriteLog}
use Rattle.ffv1_commands.specs.Devices.{WritesFront, TakesWhole}
use Rattle.ffv1_commands.specs.Inner.Devices.{WritesNamed}
use Rattle.ffv1_commands.specs.Fault.{NamesPath}
use Rattle.ffv1_commands.specs.Paths.{IsShowPath}
use Rattle.ffv1_commands.specs.RecordInputs.{StopsAtRecord}
use Rattle.ffv1_commands.specs.RecordText.{PrintsText, TextStops, TextBreaks, ReportsText}
use Rattle.ffv1_commands.specs.SetupText.{setup_text, ReportsSetup}
use Rattle.ffv1_commands.specs.ShowText.{show_text, ReportsShow}
use Rattle.ffv1_commands.specs.declared.fault.CliFault.{CliFault}
use Rattle.ffv1_commands.specs.declared.fault.CliFault.TheVariants as faults
use Rattle.ffv1_commands.specs.declared.path.CommandPath.TheVariants as paths
use Rattle.ffv1_commands.proofs.Reporting.{whole_of}

module _ {V : Type 0} (Takes : V → Type 0) (Stops : CliFault → Type 0) (text : V → List ℕ) where
  -- the text was printed once the record was read, or was not
  pub text_printed : {T : Type 0} (old new : WriteLog) (value : V) → Takes value → (r : Result T CliFault)
      → WritesNamed paths.StandardOutput r old new (text value) → ReportsText r Takes Stops text old new
  text_printed old new value read (Ok x) wrote = (value, read, wrote)
  text_printed old new value read (Err fault) (is, stopped) =
      subst (TextBreaks Takes Stops text old new) (sym is) (refl, (value, read, stopped))

-- the record gave nothing, which leaves the output as it was
pub record_breaks : {V : Type 0} (Takes : V → Type 0) (First : List ℕ → SetupFault → Type 0) (text : V → List ℕ) (a b : ReadLog) (output : WriteLog)
    (fault : CliFault) → StopsAtRecord First a b fault → TextBreaks Takes (StopsAtRecord First a b) text output output fault
record_breaks Takes First text a b output (faults.Write path) stops = absurd stops
record_breaks Takes First text a b output fault stops = (stops, refl)

-- ---- the same of bytes

pub record TextOfBytes {T V : Type 0} (r : Result T CliFault) (Says : List ℕ → V → Type 0) (First : List ℕ → SetupFault → Type 0) (text : V → List ℕ)
    (config old new : Option (List ℕ)) : Type 0 where
  pub ok : OnOk r (IfSome config (λ bytes. PrintsText (Says bytes) text old new))
  pub few : OnOk r (IfSome config (λ bytes. length bytes ≤ payload_limit))
  pub err : IfErr r (TextStops Says First text config old new)
  pub names : IfErr r (NamesPath IsShowPath)

-- the bytes may be named otherwise
pub renamed : {T V : Type 0} (r : Result T CliFault) (Says : List ℕ → V → Type 0) (First : List ℕ → SetupFault → Type 0) (text : V → List ℕ)
    (config config' old old' new new' : Option (List ℕ)) → config ≡ config' → old ≡ old' → new ≡ new' → TextOfBytes r Says First text config old new
    → TextOfBytes r Says First text config' old' new'
renamed r Says First text config config' old old' new new' input before after bytes =
    subst (λ c. TextOfBytes r Says First text c old' new') input
    (subst (λ o. TextOfBytes r Says First text config o new') before (subst (λ n. TextOfBytes r Says First text config old n) after bytes))

module _ (a b : ReadLog) (config : List ℕ) (took : TakesWhole a b config) where
  -- what holds of the bytes that were read holds of those that the input has, if they are known
  of_input : (P : List ℕ → Type 0) → P config → IfSome a.remaining P
  of_input P here = let whole = whole_of a b config took in Consumes-whole _ _ config P whole.taken whole.end here

module _ {V : Type 0} (Says : List ℕ → V → Type 0) (First : List ℕ → SetupFault → Type 0) (text : V → List ℕ) (a b : ReadLog) (old new : WriteLog)
    (Takes : V → Type 0) (given : (value : V) → Takes value → (config : List ℕ) × TakesWhole a b config × Says config value) where
  kept : new ≡ old → Keeps old.contents new.contents
  kept same = subst (λ (log : WriteLog). Keeps old.contents log.contents) (sym same) (Keeps-refl old.contents)

  -- what holds of the bytes of a value that was taken holds of those that the input has, if they are known
  of_taken : (value : V) → Takes value → (P : List ℕ → Type 0) → ((config : List ℕ) → length config ≤ payload_limit → Says config value → P config)
      → IfSome a.remaining P
  of_taken value takes P here =
      let took = given value takes in of_input a b took.0 took.1 P (here took.0 took.1.few took.2)

  text_of_bytes : {T : Type 0} (r : Result T CliFault) → ReportsText r Takes (StopsAtRecord First a b) text old new
      → TextOfBytes r Says First text a.remaining old.contents new.contents
  text_of_bytes (Ok x) (value, takes, wrote) = record {
    ok = of_taken value takes (λ bytes. PrintsText (Says bytes) text old.contents new.contents) (λ config few says. (value, says, wrote.bytes'));
    few = of_taken value takes (λ bytes. length bytes ≤ payload_limit) (λ config few says. few);
    err = tt;
    names = tt;
  }
  text_of_bytes (Err (faults.Read path)) ((same, unread), same_output) =
      record { ok = tt; few = tt; err = (same, kept same_output); names = subst IsShowPath (sym same) tt }
  text_of_bytes (Err (faults.Setup fault)) ((config, took, first), same_output) =
      record { ok = tt; few = tt; err = (of_input a b config took (λ bytes. First bytes fault) first, kept same_output); names = tt }
  text_of_bytes (Err faults.Memory) (within, same_output) = record { ok = tt; few = tt; err = kept same_output; names = tt }
  text_of_bytes (Err (faults.Write path)) (same, (value, takes, stopped)) = record {
    ok = tt;
    few = tt;
    err = (
      same,
      of_taken value takes (λ bytes. (value : V) × Says bytes value × WritesFront old.contents new.contents (text value))
          (λ config few says. (value, says, stopped.front)),
    );
    names = subst IsShowPath (sym same) tt;
  }
  text_of_bytes (Err fault) stops = absurd stops.0

module _ (width height : ℕ) (a b : ReadLog) (old new : WriteLog) where
  pub show_of_bytes : {T : Type 0} (r : Result T CliFault) → ReportsShow r width height a b old new
      → TextOfBytes r (λ config setup. IsSetupOf config width height setup) (λ config fault. FirstSetupFault config width height fault) show_text
      a.remaining old.contents new.contents
  show_of_bytes r reported =
      text_of_bytes (λ config setup. IsSetupOf config width height setup) (λ config fault. FirstSetupFault config width height fault) show_text
      a b old new _ (λ setup takes. (takes.config, takes.read, takes.is_setup)) r reported

  pub setup_of_bytes : {T : Type 0} (r : Result T CliFault) → ReportsSetup r width height a b old new
      → TextOfBytes r (λ config recording. IsRecordingOf config width height recording) (λ config fault. FirstRecordingFault config width height fault)
      setup_text a.remaining old.contents new.contents
  setup_of_bytes r reported =
      text_of_bytes (λ config recording. IsRecordingOf config width height recording) (λ config fault. FirstRecordingFault config width height fault)
      setup_text a b old new _ (λ recording takes. (takes.config, takes.read, takes.is_recording)) r reported
