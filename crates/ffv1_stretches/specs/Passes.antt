-- What one pass over copies makes of stretches (own).
use Rattle.std.specs.Prelude.{ℕ, ◌≡◌, ◌+◌, ◌<◌, ◌≤◌, Bool, List, [], ◌∷◌, ◌++◌, length, take, slice_index_or, zero, suc, Some, None, IfSome, Result, Ok, Err}
use Rattle.std.specs.List.{AllZip, flat_map, list_all}
use Rattle.ffv1_devices.specs.Logs.{ReadLog, WriteLog, Reads, Writes, StopsWriting}
use Rattle.ffv1_devices.specs.Exact.{StopsReading}
use Rattle.ffv1_mend.specs.Mended.{MendedValue, is_good}
use Rattle.ffv1_stretches.specs.Stretches.{StretchValue, ends_of}
use Rattle.ffv1_stretches.specs.Cells.{cells_of, IsStretchMend}
use Rattle.ffv1_stretches.specs.Lines.{mend_text}
use Rattle.ffv1_stretches.specs.declared.pass.MendFault.{MendFault}
use Rattle.ffv1_stretches.specs.declared.pass.MendFault.TheVariants as faults

-- ---- what was read of the copies

-- Each copy was read from its start on, as these bytes.
abbrev pub AreRead : (old new : List ReadLog) → List (List ℕ) → Type 0
AreRead (old ∷ olds) (new ∷ news) (file ∷ files) = Reads old new file × AreRead olds news files
AreRead [] [] [] = Unit {0}
AreRead _ _ _ = ⊥

-- So was each but the copy of this number: that ended, or was given up, after these bytes of its own.
abbrev pub AreReadBut : ℕ → (old new : List ReadLog) → List (List ℕ) → Type 0
AreReadBut zero (old ∷ olds) (new ∷ news) (file ∷ files) = StopsReading old new file × AreRead olds news files
AreReadBut (suc copy) (old ∷ olds) (new ∷ news) (file ∷ files) = Reads old new file × AreReadBut copy olds news files
AreReadBut _ _ _ _ = ⊥

-- ---- what was made

-- what becomes of the stretches of a front, one after the other, is this, where the copies were read as these files
pub record MendsFront (stretches front : List StretchValue) (files : List (List ℕ)) (mended : List MendedValue) : Type 0 where
  pub rest : List StretchValue
  pub split : stretches ≡ front ++ rest
  pub outcomes : AllZip (λ stretch one. IsStretchMend (cells_of files stretch) stretch one) front mended
  pub least : AllZip (λ end file. end ≤ length file) (ends_of (length files) front) files
  pub most : AllZip (λ end file. length file ≤ end) (ends_of (length files) stretches) files

-- the bytes of what becomes of stretches, one after the other
abbrev pub bytes_of : List MendedValue → List ℕ
bytes_of mended = flat_map (λ one. one.bytes) mended

-- the copy of this number ends within the first stretch after a front, and each copy before it has that stretch, or none there
pub record EndsWithin (copy : ℕ) (rest : List StretchValue) (files : List (List ℕ)) : Type 0 where
  pub stretch : StretchValue
  pub later : List StretchValue
  pub first : rest ≡ stretch ∷ later
  pub place : ℕ
  pub there : slice_index_or stretch.places copy None ≡ Some place
  pub short : length (slice_index_or files copy []) < place + stretch.size
  pub earlier : AllZip (λ start file. IfSome start (λ begin. begin + stretch.size ≤ length file)) (take copy stretch.places) (take copy files)

-- What a pass over all stretches did: each copy was read to the end of its last stretch, and no further; what becomes of the stretches was
-- written to OUT, and their lines to the output, and what is returned is whether all are good.
pub record MendsAll (stretches : List StretchValue) (old new : List ReadLog) (out_old out_new output_old output_new : WriteLog) (good : Bool) : Type 0 where
  pub files : List (List ℕ)
  pub read : AreRead old new files
  pub mended : List MendedValue
  pub mends : MendsFront stretches stretches files mended
  pub wrote : Writes out_old out_new (bytes_of mended)
  pub printed : Writes output_old output_new (mend_text 1 files stretches mended)
  pub returned : good ≡ list_all (λ one. is_good one.state) mended

-- What a pass did that stopped. `Read`: the copy of this number was given up, or ended within the first stretch after a front, and all of
-- the front was written and printed. `Memory`: the same, but no copy stopped. `Out`: OUT was given up; a front of what becomes of the
-- stretches of a front was written, and the lines of those before the last. `Output`: the output was given up; what becomes of the
-- stretches of a front was written, and a front of their lines.
abbrev pub StopsMending : List StretchValue → (old new : List ReadLog) → (out_old out_new output_old output_new : WriteLog) → MendFault → Type 0
StopsMending stretches old new out_old out_new output_old output_new (faults.Read copy) =
    (front : List StretchValue) × (files : List (List ℕ)) × (mended : List MendedValue) × AreReadBut copy old new files
    × (mends : MendsFront stretches front files mended) × EndsWithin copy mends.rest files
    × Writes out_old out_new (bytes_of mended) × Writes output_old output_new (mend_text 1 files front mended)
StopsMending stretches old new out_old out_new output_old output_new faults.Memory =
    (front : List StretchValue) × (files : List (List ℕ)) × (mended : List MendedValue) × AreRead old new files
    × MendsFront stretches front files mended
    × Writes out_old out_new (bytes_of mended) × Writes output_old output_new (mend_text 1 files front mended)
StopsMending stretches old new out_old out_new output_old output_new faults.Out =
    (front : List StretchValue) × (stretch : StretchValue) × (files : List (List ℕ)) × (mended : List MendedValue) × (one : MendedValue)
    × AreRead old new files × MendsFront stretches (front ++ stretch ∷ []) files (mended ++ one ∷ [])
    × StopsWriting out_old out_new (bytes_of (mended ++ one ∷ [])) × Writes output_old output_new (mend_text 1 files front mended)
StopsMending stretches old new out_old out_new output_old output_new faults.Output =
    (front : List StretchValue) × (files : List (List ℕ)) × (mended : List MendedValue) × AreRead old new files
    × MendsFront stretches front files mended
    × Writes out_old out_new (bytes_of mended) × StopsWriting output_old output_new (mend_text 1 files front mended)

-- all stretches were mended, or the pass stopped
abbrev pub MendsStretches : List StretchValue → Result Bool MendFault → (old new : List ReadLog) → (out_old out_new output_old output_new : WriteLog) → Type 0
MendsStretches stretches (Ok good) old new out_old out_new output_old output_new = MendsAll stretches old new out_old out_new output_old output_new good
MendsStretches stretches (Err fault) old new out_old out_new output_old output_new = StopsMending stretches old new out_old out_new output_old output_new fault
