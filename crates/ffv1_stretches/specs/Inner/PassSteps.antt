-- What the steps of a pass do.
use Rattle.std.specs.Prelude.{ℕ, ◌≡◌, ◌+◌, ◌<◌, Bool, List, [], ◌∷◌, ◌++◌, length, map, Option, Some, None, Result, Ok, Err}
use Rattle.ffv1_devices.specs.Logs.{ReadLog, WriteLog, Reads, Writes, StopsWriting}
use Rattle.ffv1_devices.specs.Exact.{StopsReading}
use Rattle.ffv1_mend.specs.Mended.{MendedValue, is_good}
use Rattle.ffv1_stretches.specs.Stretches.{StretchValue}
use Rattle.ffv1_stretches.specs.Cells.{IsStretchMend}
use Rattle.ffv1_stretches.specs.Lines.{stretch_text}
use Rattle.ffv1_stretches.specs.Copies.{CopyState}
use Rattle.ffv1_stretches.specs.Inner.Copies.{ReadsStretch}
use Rattle.ffv1_stretches.specs.declared.pass.MendFault.{MendFault}
use Rattle.ffv1_stretches.specs.declared.pass.MendFault.TheVariants as faults

-- ---- reading a stretch of one copy

-- the stretch was read, if the copy has it: these bytes more
abbrev pub StepsCopy : ℕ → Option ℕ → CopyState → CopyState → List ℕ → Type 0
StepsCopy size None old new more = (new ≡ old) × (more ≡ [])
StepsCopy size (Some place) old new more = ReadsStretch place size old new more

-- These bytes more were read of a copy that has the stretch, and they end before its end.
pub record StopsCopy (Went : ReadLog → ReadLog → List ℕ → Type 0) (size : ℕ) (place : Option ℕ) (old new : CopyState) (more : List ℕ) : Type 0 where
  pub start : ℕ
  pub there : place ≡ Some start
  pub went : Went old.log new.log more
  pub short : old.end + length more < start + size

-- the copy of this number was read, or it stopped
abbrev pub ReadsPlaced : {T : Type 0} → (number size : ℕ) → Option ℕ → Result T MendFault → CopyState → CopyState → Type 0
ReadsPlaced number size place (Ok x) old new = (more : List ℕ) × StepsCopy size place old new more
ReadsPlaced number size place (Err (faults.Read copy)) old new = (copy ≡ number) × ((more : List ℕ) × StopsCopy StopsReading size place old new more)
ReadsPlaced number size place (Err faults.Memory) old new = (more : List ℕ) × StopsCopy Reads size place old new more
ReadsPlaced number size place (Err _) old new = ⊥

-- ---- reading it of each copy

-- one copy, of which the stretch was read, if it has it
pub record CopyStep (size : ℕ) : Type 0 where
  pub place : Option ℕ
  pub old : CopyState
  pub new : CopyState
  pub more : List ℕ
  pub step : StepsCopy size place old new more

-- the copies at these places went by these steps
pub record AreSteps (size : ℕ) (places : List (Option ℕ)) (olds news : List CopyState) (steps : List (CopyStep size)) : Type 0 where
  pub places' : places ≡ map (λ step. step.place) steps
  pub olds' : olds ≡ map (λ step. step.old) steps
  pub news' : news ≡ map (λ step. step.new) steps

-- Some copies went by steps, the next one stopped, and nothing was read of the rest.
pub record StopsCopies (Went : ReadLog → ReadLog → List ℕ → Type 0) (size : ℕ) (places : List (Option ℕ)) (olds news : List CopyState) : Type 0 where
  pub steps : List (CopyStep size)
  pub place : Option ℕ
  pub old : CopyState
  pub new : CopyState
  pub more : List ℕ
  pub stop : StopsCopy Went size place old new more
  pub later : List (Option ℕ)
  pub rest : List CopyState
  pub places' : places ≡ map (λ step. step.place) steps ++ place ∷ later
  pub olds' : olds ≡ map (λ step. step.old) steps ++ old ∷ rest
  pub news' : news ≡ map (λ step. step.new) steps ++ new ∷ rest

-- the stretch was read of each copy that has it, or one of them stopped
abbrev pub ReadsEach : {T : Type 0} → ℕ → List (Option ℕ) → Result T MendFault → (old new : List CopyState) → Type 0
ReadsEach size places (Ok x) olds news = (steps : List (CopyStep size)) × AreSteps size places olds news steps
ReadsEach size places (Err (faults.Read copy)) olds news =
    (stops : StopsCopies StopsReading size places olds news) × (copy ≡ length stops.steps)
ReadsEach size places (Err faults.Memory) olds news = StopsCopies Reads size places olds news
ReadsEach size places (Err _) olds news = ⊥

-- ---- writing what becomes of a stretch

-- It was written, and then its lines; or either was not written whole; or memory was refused before.
abbrev pub MendsOne : ℕ → List (Option (List ℕ)) → StretchValue → Result Bool MendFault → (out_old out_new output_old output_new : WriteLog) → Type 0
MendsOne number cells stretch (Ok good) out_old out_new output_old output_new = (one : MendedValue) × IsStretchMend cells stretch one
    × Writes out_old out_new one.bytes × Writes output_old output_new (stretch_text number cells stretch one) × (good ≡ is_good one.state)
MendsOne number cells stretch (Err faults.Out) out_old out_new output_old output_new = (one : MendedValue) × IsStretchMend cells stretch one
    × StopsWriting out_old out_new one.bytes × (output_new ≡ output_old)
MendsOne number cells stretch (Err faults.Output) out_old out_new output_old output_new = (one : MendedValue) × IsStretchMend cells stretch one
    × Writes out_old out_new one.bytes × StopsWriting output_old output_new (stretch_text number cells stretch one)
MendsOne number cells stretch (Err faults.Memory) out_old out_new output_old output_new = (out_new ≡ out_old) × (output_new ≡ output_old)
MendsOne number cells stretch (Err (faults.Read copy)) out_old out_new output_old output_new = ⊥
