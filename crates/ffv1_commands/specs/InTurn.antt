-- Inputs that a command reads in turn, each by a source of its own.
use Rattle.std.specs.Prelude.{ℕ, ◌≡◌, ◌+◌, ◌<◌, zero, suc, List, [], ◌∷◌, length, map, take, drop, slice_index_or, Option, None}
use Rattle.ffv1_devices.specs.Logs.{ReadLog}
use Rattle.ffv1_devices.specs.Streams.{no_failures}
use Rattle.ffv1_commands.specs.Devices.{TakesWhole}
use Rattle.ffv1_commands.specs.declared.fault.CliFault.{CliFault}
use Rattle.ffv1_commands.specs.declared.fault.CliFault.TheVariants as faults
use Rattle.ffv1_commands.specs.declared.path.CommandPath.{CommandPath}
use Rattle.ffv1_commands.specs.declared.path.CommandPath.TheVariants as paths

-- The inputs from this place on are as they were.
abbrev pub AreKeptFrom : {C : Type 0} → ℕ → (old new : List C) → Type 0
AreKeptFrom place old new = drop place new ≡ drop place old

-- ---- over the logs of the devices

-- the log of a source of an input, of which no failure and no byte was counted yet
abbrev pub log_of : Option (List ℕ) → ReadLog
log_of input = record { remaining = input; tries = no_failures; taken = 0 }

-- An input was read by a source of its own, whose log went so. That source is gone once the call ends, so this says that such a log exists.
-- The input's bytes bind it, if they are known. Nothing that the caller keeps binds its tries.
abbrev pub ReadsAlone : (ReadLog → ReadLog → Type 0) → Option (List ℕ) → Type 0
ReadsAlone Went input = (log : ReadLog) × Went (log_of input) log

-- the input was read whole as these bytes by a source of its own
abbrev pub IsTaken : Option (List ℕ) → List ℕ → Type 0
IsTaken input bytes = ReadsAlone (λ old new. TakesWhole old new bytes) input

-- so was each of the inputs
abbrev pub AreTaken : List (Option (List ℕ)) → List (List ℕ) → Type 0
AreTaken [] [] = Unit {0}
AreTaken [] (bytes ∷ rest) = ⊥
AreTaken (input ∷ inputs) [] = ⊥
AreTaken (input ∷ inputs) (bytes ∷ rest) = IsTaken input bytes × AreTaken inputs rest

-- The copies were read whole in turn, up to one at which the command stopped: `Stops` says how its source went, by the copy's path and the
-- fault. The copies after it are as they were.
pub record StopsAtCopy {C : Type 0} (Stops : CommandPath → CliFault → ReadLog → ReadLog → Type 0) (remaining : C → Option (List ℕ)) (old new : List C)
    (fault : CliFault) : Type 0 where
  pub index : ℕ
  pub there : index < length old
  pub copies : List (List ℕ)
  pub earlier : AreTaken (take index (map remaining old)) copies
  pub stopped : ReadsAlone (Stops (paths.Copy index) fault) (slice_index_or (map remaining old) index None)
  pub later : AreKeptFrom (index + 1) old new

-- ---- the input at a place

-- It went so, as its source or otherwise.
abbrev pub WentAt : {X : Type 0} → (X → X → Type 0) → ℕ → (old new : List X) → Type 0
WentAt Went zero (old ∷ olds) (new ∷ news) = Went old new
WentAt Went (suc place) (old ∷ olds) (new ∷ news) = WentAt Went place olds news
WentAt Went place _ _ = ⊥

-- What a fault rests on that says that a copy was not read: its source went so.
abbrev pub IfCopyUnread : {X : Type 0} → (X → X → Type 0) → (old new : List X) → CliFault → Type 0
IfCopyUnread Went old new (faults.Read (paths.Copy place)) = WentAt Went place old new
IfCopyUnread Went old new _ = Unit {0}
