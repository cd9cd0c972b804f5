-- What a record that was read gives, and what its fault says, of any fact about faults.
use Rattle.std.proofs.Common.{◌≡◌, ℕ, List, inl, inr, refl, sym, subst}
use Rattle.std.specs.Prelude.{◌⊎◌}
use Rattle.ffv1_range.specs.Setup.{SetupValue, IsSetupOf, RecordingValue, IsRecordingOf}
use Rattle.ffv1_range.specs.SetupFaults.{FirstSetupFault, FirstRecordingFault}
use Rattle.ffv1_range.specs.declared.fault.SetupFault.{SetupFault}
use Rattle.ffv1_range.specs.declared.fault.SetupFault.TheVariants as setup
use Rattle.ffv1_holding.specs.Reels.{FirstRecordFault}
use Rattle.ffv1_holding.specs.declared.recordings.Recordings.{Recordings}
use Rattle.ffv1_devices.specs.Logs.{ReadLog}
use Rattle.ffv1_commands.specs.Devices.{TakesWhole, FileStops, UnlessWriting, IfOfRecord}
use Rattle.ffv1_commands.specs.Fault.{of_setup}
use Rattle.ffv1_commands.specs.RecordInputs.{TakesSetup, TakesRecording, StopsAtRecord, RecordStops, RecordingStops, ReelStops}
use Rattle.ffv1_commands.specs.declared.fault.CliFault.{CliFault}
use Rattle.ffv1_commands.specs.declared.fault.CliFault.TheVariants as faults
use Rattle.ffv1_commands.specs.declared.path.CommandPath.TheVariants as paths
use Rattle.ffv1_commands.proofs.InputFaults.{IsUnwritten, untouched_both}
use Rattle.ffv1_commands.proofs.UnreadFiles.{file_says}

-- what any fault of a record says, if that of each form says so
StopsAtRecord-says : (P : CliFault → Type 0) (First : List ℕ → SetupFault → Type 0) (a b : ReadLog) (fault : CliFault) → P (faults.Read paths.Record)
    → P faults.Memory → ((setup : SetupFault) (config : List ℕ) → TakesWhole a b config → First config setup → P (faults.Setup setup))
    → StopsAtRecord First a b fault → P fault
StopsAtRecord-says P First a b (faults.Read named) read memory first (same, unread) = subst (λ n. P (faults.Read n)) (sym same) read
StopsAtRecord-says P First a b faults.Memory read memory first within = memory
StopsAtRecord-says P First a b (faults.Setup setup) read memory first (config, took, is) = first setup config took is
StopsAtRecord-says P First a b fault read memory first stops = absurd stops

pub RecordStops-says : (P : CliFault → Type 0) (width height : ℕ) (a b : ReadLog) (fault : CliFault) → P (faults.Read paths.Record) → P faults.Memory
    → ((setup : SetupFault) (config : List ℕ) → TakesWhole a b config → FirstSetupFault config width height setup → P (faults.Setup setup))
    → RecordStops width height a b fault → P fault
RecordStops-says P width height a b fault read memory first stops =
    StopsAtRecord-says P (λ config setup. FirstSetupFault config width height setup) a b fault read memory first stops

pub ReelStops-says : (recordings : Recordings) (P : CliFault → Type 0) (width height : ℕ) (a b : ReadLog) (fault : CliFault) → P (faults.Read paths.Record)
    → P faults.Memory
    → ((setup : SetupFault) (config : List ℕ) → TakesWhole a b config → FirstRecordFault recordings config width height setup → P (faults.Setup setup))
    → ReelStops recordings width height a b fault → P fault
ReelStops-says recordings P width height a b fault read memory first stops =
    StopsAtRecord-says P (λ config setup. FirstRecordFault recordings config width height setup) a b fault read memory first stops

pub RecordingStops-says : (P : CliFault → Type 0) (width height : ℕ) (a b : ReadLog) (fault : CliFault) → P (faults.Read paths.Record) → P faults.Memory
    → ((setup : SetupFault) (config : List ℕ) → TakesWhole a b config → FirstRecordingFault config width height setup → P (faults.Setup setup))
    → RecordingStops width height a b fault → P fault
RecordingStops-says P width height a b fault read memory first stops =
    StopsAtRecord-says P (λ config setup. FirstRecordingFault config width height setup) a b fault read memory first stops

-- a setup's fault is Memory, or reported as `Setup`
setups : (P : CliFault → Type 0) (fault : SetupFault) → P faults.Memory → P (faults.Setup fault) → P (of_setup fault)
setups P setup.Memory memory other = memory
setups P fault memory other = other

-- a record's fault is Memory, or the one that reading it meets first
setups_first : (P : CliFault → Type 0) (First : Type 0) (fault : SetupFault) → P faults.Memory → (First → P (faults.Setup fault))
    → (fault ≡ setup.Memory) ⊎ First → P (of_setup fault)
setups_first P First fault memory other (inl is) = subst (λ f. P (of_setup f)) (sym is) memory
setups_first P First fault memory other (inr first) = setups P fault memory (other first)

-- a record that was read gives nothing, for the fault that it has first
refused_by : (First : List ℕ → SetupFault → Type 0) (a b : ReadLog) (config bytes : List ℕ) → bytes ≡ config → TakesWhole a b config
    → (fault : SetupFault) → (fault ≡ setup.Memory) ⊎ First bytes fault → StopsAtRecord First a b (of_setup fault)
refused_by First a b config bytes same took fault first =
    setups_first (StopsAtRecord First a b) (First config fault) fault (config, took.read, took.few)
    (λ met. (config, took, met)) (subst (λ (read : List ℕ). (fault ≡ setup.Memory) ⊎ First read fault) same first)

module _ (recordings : Recordings) (width height : ℕ) (a b : ReadLog) where
  -- the record was not read
  pub reel_unread : (fault : CliFault) → FileStops paths.Record fault a b → ReelStops recordings width height a b fault
  reel_unread = file_says (ReelStops recordings width height a b) paths.Record a b (λ unread. (refl, unread)) (λ within. within)

  -- it was, and gives no reel
  pub reel_refused : (config bytes : List ℕ) → bytes ≡ config → TakesWhole a b config → (fault : SetupFault)
      → (fault ≡ setup.Memory) ⊎ FirstRecordFault recordings bytes width height fault → ReelStops recordings width height a b (of_setup fault)
  reel_refused config bytes same took fault first =
      refused_by (λ read met. FirstRecordFault recordings read width height met) a b config bytes same took fault first

  -- it comes before anything is written
  reel_unwritten : (fault : CliFault) → ReelStops recordings width height a b fault → IsUnwritten fault
  reel_unwritten fault stops = ReelStops-says recordings IsUnwritten width height a b fault tt tt (λ setup config took first. tt) stops

  pub reel_both : {O W : Type 0} (out : O) (output : W) (fault : CliFault) → ReelStops recordings width height a b fault
      → UnlessWriting fault ((out ≡ out) × (output ≡ output))
  reel_both out output fault stops = untouched_both out output fault (reel_unwritten fault stops)

  -- and before any other input is read
  pub reel_in_turn : (P : Type 0) → P → (fault : CliFault) → ReelStops recordings width height a b fault → IfOfRecord fault P
  reel_in_turn P here fault stops =
      ReelStops-says recordings (λ f. IfOfRecord f P) width height a b fault (λ is. here) tt (λ setup config took first. here) stops

module _ (width height : ℕ) (a b : ReadLog) where
  -- the record was not read
  pub record_unread : (fault : CliFault) → FileStops paths.Record fault a b → RecordStops width height a b fault
  record_unread = file_says (RecordStops width height a b) paths.Record a b (λ unread. (refl, unread)) (λ within. within)

  -- it was, and gives this setup
  pub record_taken : (config bytes : List ℕ) → bytes ≡ config → TakesWhole a b config → (value : SetupValue) → IsSetupOf bytes width height value
      → TakesSetup width height a b value
  record_taken config bytes same took value is =
      record { config = config; read = took; is_setup = subst (λ (read : List ℕ). IsSetupOf read width height value) same is }

  -- or none
  pub record_refused : (config bytes : List ℕ) → bytes ≡ config → TakesWhole a b config → (fault : SetupFault)
      → (fault ≡ setup.Memory) ⊎ FirstSetupFault bytes width height fault → RecordStops width height a b (of_setup fault)
  record_refused config bytes same took fault first =
      refused_by (λ read met. FirstSetupFault read width height met) a b config bytes same took fault first

  -- the same of a recording
  pub recording_taken : (config bytes : List ℕ) → bytes ≡ config → TakesWhole a b config → (value : RecordingValue)
      → IsRecordingOf bytes width height value → TakesRecording width height a b value
  recording_taken config bytes same took value is =
      record { config = config; read = took; is_recording = subst (λ (read : List ℕ). IsRecordingOf read width height value) same is }

  -- it was not read as one
  pub recording_unread : (fault : CliFault) → FileStops paths.Record fault a b → RecordingStops width height a b fault
  recording_unread = file_says (RecordingStops width height a b) paths.Record a b (λ unread. (refl, unread)) (λ within. within)

  pub recording_refused : (config bytes : List ℕ) → bytes ≡ config → TakesWhole a b config → (fault : SetupFault)
      → (fault ≡ setup.Memory) ⊎ FirstRecordingFault bytes width height fault → RecordingStops width height a b (of_setup fault)
  recording_refused config bytes same took fault first =
      refused_by (λ read met. FirstRecordingFault read width height met) a b config bytes same took fault first

  -- it comes before anything is written
  record_unwritten : (fault : CliFault) → RecordStops width height a b fault → IsUnwritten fault
  record_unwritten fault stops = RecordStops-says IsUnwritten width height a b fault tt tt (λ setup config took first. tt) stops

  pub record_both : {O W : Type 0} (out : O) (output : W) (fault : CliFault) → RecordStops width height a b fault
      → UnlessWriting fault ((out ≡ out) × (output ≡ output))
  record_both out output fault stops = untouched_both out output fault (record_unwritten fault stops)

  -- and before any other input is read
  pub record_in_turn : (P : Type 0) → P → (fault : CliFault) → RecordStops width height a b fault → IfOfRecord fault P
  record_in_turn P here fault stops =
      RecordStops-says (λ f. IfOfRecord f P) width height a b fault (λ is. here) tt (λ setup config took first. here) stops

  pub recording_in_turn : (P : Type 0) → P → (fault : CliFault) → RecordingStops width height a b fault → IfOfRecord fault P
  recording_in_turn P here fault stops =
      RecordingStops-says (λ f. IfOfRecord f P) width height a b fault (λ is. here) tt (λ setup config took first. here) stops
