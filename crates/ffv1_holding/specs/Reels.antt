-- A recording: its configuration record, the setup that the record gives for the size of its frames, and the rules of their slices.
use Rattle.std.specs.Prelude.{ℕ, ◌≡◌, ◌*◌, Bool, true, false, List, Err}
use Rattle.std.proofs.Common.{refl}
use Rattle.std.specs.Coded.{Coded, code_by, coded×, coded_ℕ, coded_list}
use Rattle.ffv1_range.specs.Setup.{SetupValue, RecordingValue, IsScopedRecord, coded_setup}
use Rattle.ffv1_range.specs.SetupForms.{Grants, all_granted, record_read}
use Rattle.ffv1_range.specs.TileHeaders.{TileRules, rules_of, coded_rules}
use Rattle.ffv1_range.specs.Frames.{by_frames}
use Rattle.ffv1_range.specs.declared.frames.Frames.{Frames}
use Rattle.ffv1_range.specs.declared.frames.Frames.TheVariants.{Ruled, Any}
use Rattle.ffv1_range.specs.declared.scope.Scope.TheVariants.{Parities}
use Rattle.ffv1_range.specs.declared.fault.SetupFault.{SetupFault}
use Rattle.ffv1_range.specs.declared.fault.SetupFault.TheVariants.{Memory}
use Rattle.ffv1_holding.specs.Recordings.{scope_of}
use Rattle.ffv1_holding.specs.declared.recordings.Recordings.{Recordings}

pub record Reel : Type 0 where
  pub config : List ℕ
  pub setup : SetupValue
  pub rules : TileRules

-- the reel of a record that says this
abbrev pub reel_of : List ℕ → RecordingValue → Reel
reel_of config recording = record { config = config; setup = recording.setup; rules = rules_of recording }

-- The setup and the rules are those of the record, which is one with parities, at the setup's own size.
abbrev pub IsRecordReel : Reel → Type 0
IsRecordReel r = (recording : RecordingValue) × IsScopedRecord r.config Parities r.setup.width r.setup.height recording × (r ≡ reel_of r.config recording)

-- the same recording, with slices of these frames
abbrev pub in_frames : Frames → Reel → Reel
in_frames frames r = record { config = r.config; setup = r.setup; rules = by_frames frames r.rules }

-- A recording by its record's own rules, and the same in some frames.
abbrev pub IsOwnReel : Reel → Reel → Type 0
IsOwnReel own r = IsRecordReel own × ((frames : Frames) × (r ≡ in_frames frames own))

-- It is the recording of a record, in some frames of it.
abbrev pub IsReel : Reel → Type 0
IsReel r = (own : Reel) × IsOwnReel own r

-- whether these are the frames that the record's own rules allow
abbrev pub are_ruled : Frames → Bool
are_ruled Ruled = true
are_ruled Any = false

-- what such a record says
abbrev pub IsRecordingFor : Recordings → List ℕ → ℕ → ℕ → RecordingValue → Type 0
IsRecordingFor recordings config width height recording = IsScopedRecord config (scope_of recordings) width height recording

-- the first fault of a record at a size
abbrev pub FirstRecordFault : Recordings → List ℕ → ℕ → ℕ → SetupFault → Type 0
FirstRecordFault recordings config width height fault = record_read all_granted config (scope_of recordings) width height ≡ Err fault

-- Reading a record at a size needs memory before it meets a fault.
abbrev pub WantsMemory : Recordings → List ℕ → ℕ → ℕ → Type 0
WantsMemory recordings config width height = (granted : Grants) × (record_read granted config (scope_of recordings) width height ≡ Err Memory)

-- the number of tiles of its frames
abbrev pub reel_tiles : Reel → ℕ
reel_tiles r = r.setup.across * r.setup.down

abbrev pub coded_reel : Coded Reel
coded_reel = code_by (List ℕ × (SetupValue × TileRules)) (coded× (coded_list coded_ℕ) (coded× coded_setup coded_rules))
    (λ r. (r.config, (r.setup, r.rules))) (λ p. record { config = p.0; setup = p.1.0; rules = p.1.1 }) (λ _. refl)
