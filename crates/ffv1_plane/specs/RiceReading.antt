-- The planes of a slice of coder_type 0 as a reader of lines reads them (RFC 9043, sections 3.8.2 and 4.7).
use Rattle.std.specs.Prelude.{◌≡◌, ℕ, zero, suc, ◌<◌, List, Bool, length, slice_index, ℤ, replicate}
use Rattle.ffv1_range.specs.Setup.{RecordingValue, set_contexts}
use Rattle.ffv1_rice.specs.States.{ContextState, start_state}
use Rattle.ffv1_plane.specs.RangeSlices.{SliceShape, coded_depth_of, group_at, ArePlanesOfSizes}
use Rattle.ffv1_plane.specs.RiceSlices.{values_after_planes, AreGroupsAfter, ArePlanesSpelled, AreCodesStuck}
use Rattle.ffv1_plane.specs.declared.rice_planes.RiceLines.{RiceLines}
use Rattle.ffv1_plane.specs.declared.rice_planes.CodesFault.{CodesFault}
use Rattle.ffv1_plane.specs.declared.rice_planes.CodesFault.TheVariants as codes_faults

-- the states of a group
abbrev pub group_codes : RiceLines → ℕ → List ContextState
group_codes reader zero = reader.luma.items
group_codes reader (suc zero) = reader.chroma.items
group_codes reader (suc (suc other)) = reader.alpha.items

-- the states that a set begins with in a keyframe (section 3.8.2.4)
abbrev pub first_codes : RecordingValue → ℕ → List ContextState
first_codes r set = replicate (set_contexts r.setup set) start_state

-- Each group of a slice's planes has a state a context.
abbrev pub HaveSliceCodes : SliceShape → RiceLines → Type 0
HaveSliceCodes shape reader =
    (p : ℕ) → p < length shape.sizes
    → length (group_codes reader (group_at shape p)) ≡ set_contexts shape.recording.setup (slice_index shape.sets (group_at shape p))

-- The values that have left the states of a reader.
abbrev pub AreValuesOf : SliceShape → (ℕ → ℕ → List ℤ) → RiceLines → Type 0
AreValuesOf shape values reader = AreGroupsAfter (coded_depth_of shape.recording) values (group_codes reader)

-- The planes of a slice were read: whichever values have left the reader's states, its bits begin with the planes after these, and what stands
-- after the planes is left; the states are then what all values have left.
pub record AreCodesDecoded (shape : SliceShape) (reader after : RiceLines) (planes : List (List ℕ)) : Type 0 where
  pub sizes : ArePlanesOfSizes (coded_depth_of shape.recording) shape.sizes planes
  pub states : HaveSliceCodes shape after
  pub spelled : (values : ℕ → ℕ → List ℤ) → AreValuesOf shape values reader → ArePlanesSpelled shape values reader.bits.left planes after.bits.left
  pub left : (values : ℕ → ℕ → List ℤ) → AreValuesOf shape values reader → AreValuesOf shape (values_after_planes shape planes values) after

-- Why they were not read.
abbrev pub IsCodesFaultOf : SliceShape → RiceLines → CodesFault → Type 0
IsCodesFaultOf shape reader (codes_faults.Sample fault plane y x) =
    (values : ℕ → ℕ → List ℤ) → AreValuesOf shape values reader → AreCodesStuck shape values reader.bits.left fault plane y x
IsCodesFaultOf shape reader codes_faults.Memory = Unit {0}

-- The bits of a reader begin with these planes.
pub record AreSpelledAt (shape : SliceShape) (reader : RiceLines) (planes : List (List ℕ)) : Type 0 where
  pub values : ℕ → ℕ → List ℤ
  pub have_left : AreValuesOf shape values reader
  pub rest : List Bool
  pub spelled : ArePlanesSpelled shape values reader.bits.left planes rest
