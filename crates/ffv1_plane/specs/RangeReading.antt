-- The planes of a slice of coder_type 1 or 2 as a reader of lines reads them (RFC 9043, sections 3.8.1 and 4.7).
use Rattle.std.specs.Prelude.{◌≡◌, ℕ, zero, suc, ◌<◌, ◌≤◌, List, length, slice_index, replicate, Option, Some, None, Ok}
use Rattle.ffv1_range.specs.Coding.{Coder}
use Rattle.ffv1_range.specs.Decoder.{reader_at}
use Rattle.ffv1_range.specs.Setup.{RecordingValue, set_contexts, initial_of}
use Rattle.ffv1_plane.specs.RangeSlices.{SliceShape, group_at, ArePlanesCoded, AreLinesStuck}
use Rattle.ffv1_bits.specs.Limits.{greatest_side}
use Rattle.ffv1_plane.specs.declared.planes.PlaneSize.{PlaneSize}
use Rattle.ffv1_plane.specs.declared.planes.RangeLines.{RangeLines}
use Rattle.ffv1_plane.specs.declared.planes.LinesFault.{LinesFault}
use Rattle.ffv1_plane.specs.declared.planes.LinesFault.TheVariants as lines_faults

-- a size that a plane can have
abbrev pub IsPlaneSize : PlaneSize → Type 0
IsPlaneSize size = (1 ≤ size.width) × (size.width ≤ greatest_side) × (size.height ≤ greatest_side)

-- the states of a group
abbrev pub group_states : RangeLines → ℕ → List (List ℕ)
group_states reader zero = reader.luma.items
group_states reader (suc zero) = reader.chroma.items
group_states reader (suc (suc other)) = reader.alpha.items

-- the states that a set begins with in a keyframe: the initial ones, or 128 each
abbrev pub states_from : ℕ → Option (List (List ℕ)) → List (List ℕ)
states_from contexts (Some states) = states
states_from contexts None = replicate contexts (replicate 32 128)

abbrev pub start_states : RecordingValue → ℕ → List (List ℕ)
start_states r set = states_from (set_contexts r.setup set) (initial_of r set)

-- Each group of a slice's planes has a row of states a context.
abbrev pub HaveSliceStates : SliceShape → RangeLines → Type 0
HaveSliceStates shape reader =
    (p : ℕ) → p < length shape.sizes
    → length (group_states reader (group_at shape p)) ≡ set_contexts shape.recording.setup (slice_index shape.sets (group_at shape p))

-- The planes of a slice were read.
pub record IsSliceRead (shape : SliceShape) (reader after : RangeLines) (planes : List (List ℕ)) : Type 0 where
  pub start : Coder
  pub from : reader.decoder.at ≡ Ok start
  pub end : Coder
  pub to : after.decoder ≡ reader_at reader.decoder (Ok end)
  pub coded : ArePlanesCoded reader.decoder.mode shape start (group_states reader) planes end (group_states after)
  pub states : HaveSliceStates shape after

-- Why they were not read.
abbrev pub IsSliceFaultOf : SliceShape → RangeLines → LinesFault → Type 0
IsSliceFaultOf shape reader (lines_faults.Sample fault plane y x) =
    (start : Coder) × (reader.decoder.at ≡ Ok start) × AreLinesStuck reader.decoder.mode shape start (group_states reader) fault plane y x
IsSliceFaultOf shape reader lines_faults.Memory = Unit {0}

-- These planes are coded where a reader is.
pub record AreCodedAt (shape : SliceShape) (reader : RangeLines) (planes : List (List ℕ)) : Type 0 where
  pub start : Coder
  pub from : reader.decoder.at ≡ Ok start
  pub end : Coder
  pub after : ℕ → List (List ℕ)
  pub coded : ArePlanesCoded reader.decoder.mode shape start (group_states reader) planes end after
