-- Laws of records in every scope: each has one outcome, and those with parities are those of version 3 with ec 1.
use Rattle.std.specs.Prelude.{ℕ, ◌≡◌, ◌↔◌, List, Err}
use Rattle.ffv1_range.specs.Setup.{RecordingValue, IsScopedRecord, IsRecordingOf}
use Rattle.ffv1_range.specs.SetupForms.{all_granted, record_read}
use Rattle.ffv1_range.specs.SetupFaults.{HasOneOutcome}
use Rattle.ffv1_range.specs.declared.scope.Scope.{Scope}
use Rattle.ffv1_range.specs.declared.scope.Scope.TheVariants.{Parities}
use Rattle.ffv1_range.specs.declared.fault.SetupFault.{SetupFault}

-- Reading the record from left to right meets this fault first, by what the scope accepts, where no memory is refused.
abbrev pub FirstScopedFault : Scope → List ℕ → ℕ → ℕ → SetupFault → Type 0
FirstScopedFault scope config width height fault = record_read all_granted config scope width height ≡ Err fault

-- In each scope a record and size say something of a recording, or have exactly one fault.
abbrev pub OneScopedRefusal : Type 0
OneScopedRefusal =
    (scope : Scope) (config : List ℕ) (width height : ℕ)
    → HasOneOutcome RecordingValue (IsScopedRecord config scope width height) (FirstScopedFault scope config width height)

-- A record is one with parities exactly if it is of version 3 with ec 1.
abbrev pub ParitiesAreOfEc1 : Type 0
ParitiesAreOfEc1 =
    (config : List ℕ) (width height : ℕ) (r : RecordingValue)
    → IsScopedRecord config Parities width height r ↔ (IsRecordingOf config width height r × (r.setup.ec ≡ 1))
