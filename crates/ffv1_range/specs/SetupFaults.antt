-- The first fault of a configuration record at a size.
use Rattle.std.specs.Prelude.{ℕ, ◌≡◌, ◌⊎◌, true, List, Err}
use Rattle.ffv1_range.specs.Setup.{SetupValue, RecordingValue, IsSetupOf, IsRecordingOf}
use Rattle.ffv1_range.specs.SetupForms.{all_granted, record_read, setup_read}
use Rattle.ffv1_range.specs.declared.scope.Scope.TheVariants.{Version3}
use Rattle.ffv1_range.specs.declared.fault.SetupFault.{SetupFault}
use Rattle.ffv1_range.specs.declared.fault.SetupFault.TheVariants.{Memory}

-- Reading the record from left to right meets this fault first, where no memory is refused.
abbrev pub FirstSetupFault : List ℕ → ℕ → ℕ → SetupFault → Type 0
FirstSetupFault config width height fault = setup_read true config width height ≡ Err fault

-- the same of a record of any recording of version 3
abbrev pub FirstRecordingFault : List ℕ → ℕ → ℕ → SetupFault → Type 0
FirstRecordingFault config width height fault = record_read all_granted config Version3 width height ≡ Err fault

-- ---- laws

-- There is a value and no fault, or no value and one fault, which is not Memory.
pub record HasOneOutcome (A : Type 0) (Is : A → Type 0) (IsFault : SetupFault → Type 0) : Type 0 where
  pub either : ((a : A) × Is a) ⊎ ((fault : SetupFault) × IsFault fault)
  pub not_both : (a : A) (fault : SetupFault) → Is a → IsFault fault → ⊥
  pub one_fault : (fault other : SetupFault) → IsFault fault → IsFault other → fault ≡ other
  pub not_memory : IsFault Memory → ⊥

-- A record and size have a setup, or exactly one fault.
abbrev pub OneSetupRefusal : Type 0
OneSetupRefusal =
    (config : List ℕ) (width height : ℕ)
    → HasOneOutcome SetupValue (IsSetupOf config width height) (FirstSetupFault config width height)

-- They say something of a recording of version 3, or have exactly one fault.
abbrev pub OneRecordingRefusal : Type 0
OneRecordingRefusal =
    (config : List ℕ) (width height : ℕ)
    → HasOneOutcome RecordingValue (IsRecordingOf config width height) (FirstRecordingFault config width height)
