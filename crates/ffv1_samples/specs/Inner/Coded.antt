-- What private calls return of a slice's samples.
use Rattle.std.specs.Prelude.{◌≡◌, ℕ, ◌+◌, ◌≤◌, Bool, false, List, length, map, Option, Ok}
use Rattle.ffv1_bits.specs.Limits.{payload_limit}
use Rattle.ffv1_range.specs.Coding.{Coder}
use Rattle.ffv1_range.specs.Decoder.{reader_at}
use Rattle.ffv1_range.specs.Setup.{RecordingValue}
use Rattle.ffv1_range.specs.declared.head.SliceStart.{SliceStart}
use Rattle.ffv1_range.specs.declared.head.SliceStart.TheVariants.{Codes, Samples}
use Rattle.ffv1_plane.specs.declared.planes.PlaneSize.{PlaneSize}
use Rattle.ffv1_rice.specs.States.{ContextState}
use Rattle.ffv1_plane.specs.declared.planes.RangeLines.{RangeLines}
use Rattle.ffv1_plane.specs.declared.rice_planes.RiceLines.{RiceLines}
use Rattle.ffv1_samples.specs.States.{GroupsOf, SliceStatesValue, slice_states_value, FitSlice}
use Rattle.ffv1_samples.specs.Coded.{SamplesEnd, range_end, rice_end, AreCoded, IsStuck, EndsWith, HasNoEnd, states_at}
use Rattle.ffv1_samples.specs.declared.ends.EndedSlice.{EndedSlice}
use Rattle.ffv1_samples.specs.declared.faults.SliceFault.{SliceFault}
use Rattle.ffv1_samples.specs.declared.faults.SliceFault.TheVariants.{Head, Code, End}
use Rattle.ffv1_samples.specs.declared.faults.SliceFault.TheVariants as slice_faults
use Rattle.ffv1_range.specs.declared.head.SliceHeader.{SliceHeader}
use Rattle.ffv1_samples.specs.Pictures.{ArePicturePlanes}
use Rattle.ffv1_samples.specs.Slices.{SlicePictureValue}
use Rattle.ffv1_samples.specs.Inner.Planes.{IsJudgedFault}
use Rattle.ffv1_samples.specs.declared.reading.CodedSlice.{CodedSlice}
use Rattle.ffv1_samples.specs.declared.reading.CodedFault.{CodedFault}
use Rattle.ffv1_samples.specs.declared.reading.CodedFault.TheVariants.{Sample, Memory}
use Rattle.ffv1_samples.specs.declared.reading.SliceReader.{SliceReader}
use Rattle.ffv1_samples.specs.declared.reading.SliceReader.TheVariants.{Range, Rice}

-- the states of a reader's groups
abbrev pub lines_groups : RangeLines → GroupsOf (List ℕ)
lines_groups reader = record { luma = reader.luma.items; chroma = reader.chroma.items; alpha = reader.alpha.items }

abbrev pub codes_groups : RiceLines → GroupsOf ContextState
codes_groups reader = record { luma = reader.luma.items; chroma = reader.chroma.items; alpha = reader.alpha.items }

-- The reader is where the samples end.
abbrev pub IsReaderAt : SliceStart → SliceReader → SamplesEnd → Type 0
IsReaderAt (Samples decoder) (Range lines) (range_end last after) = (lines.decoder ≡ reader_at decoder (Ok last)) × (after ≡ lines_groups lines)
IsReaderAt (Codes place) (Rice lines) (rice_end rest after) = (lines.bits.left ≡ rest) × (after ≡ codes_groups lines)
IsReaderAt start after end = ⊥

-- The reader met no fault, and what it has not read is not longer than a payload and a byte.
abbrev pub IsReaderWithin : SliceReader → Type 0
IsReaderWithin (Range lines) = (lines.decoder.mode.closed ≡ false) × ((c : Coder) → lines.decoder.at ≡ Ok c → length c.rest ≤ payload_limit + 1)
IsReaderWithin (Rice lines) = Unit {0}

-- How a slice ends where a reader is.
pub record EndValue : Type 0 where
  pub spare_bits : ℕ
  pub is_clean : Bool
  pub states : SliceStatesValue

abbrev pub end_value : EndedSlice → EndValue
end_value end = record { spare_bits = end.spare_bits; is_clean = end.is_clean; states = slice_states_value end.states }

abbrev pub IsEndAt : SliceReader → EndValue → Type 0
IsEndAt after value = (start : SliceStart) (end : SamplesEnd) → IsReaderAt start after end
    → EndsWith start end value.spare_bits value.is_clean × (value.states ≡ states_at end)

abbrev pub IsEndFault : SliceReader → SliceFault → Type 0
IsEndFault after fault = (fault ≡ End) × ((start : SliceStart) (end : SamplesEnd) → IsReaderAt start after end → HasNoEnd start end)

-- The planes of a slice were read, up to where the reader is.
pub record IsCodedSlice (r : RecordingValue) (sets : List ℕ) (sizes : List PlaneSize) (content : List ℕ) (start : SliceStart) (before : Option SliceStatesValue)
    (slice : CodedSlice) : Type 0 where
  pub end : SamplesEnd
  pub are_coded : AreCoded r sets sizes content start before (map (λ plane. plane.items) slice.planes.items) end
  pub reader : IsReaderAt start slice.after end
  pub fit : FitSlice r sets (states_at end)
  pub within : IsReaderWithin slice.after

-- Why they were not read.
abbrev pub IsCodedFault : RecordingValue → List ℕ → List PlaneSize → List ℕ → SliceStart → Option SliceStatesValue → CodedFault → Type 0
IsCodedFault r sets sizes content start before (Sample fault plane y x) = IsStuck r sets sizes content start before fault plane y x
IsCodedFault r sets sizes content start before Memory = Unit {0}

-- The picture of coded planes and of their end.
pub record IsFinished (r : RecordingValue) (header : SliceHeader) (coded : List (List ℕ)) (after : SliceReader) (picture : SlicePictureValue) : Type 0 where
  pub header_is : picture.header ≡ header
  pub planes : ArePicturePlanes r coded picture.planes
  pub end : IsEndAt after (record { spare_bits = picture.spare_bits; is_clean = picture.is_clean; states = picture.states })

-- Why there is none.
abbrev pub IsUnfinished : RecordingValue → List (List ℕ) → ℕ → SliceReader → SliceFault → Type 0
IsUnfinished r coded width after (Code fault plane y x) = IsJudgedFault r coded width (Code fault plane y x)
IsUnfinished r coded width after End = (planes : List (List ℕ)) × ArePicturePlanes r coded planes × IsEndFault after End
IsUnfinished r coded width after (Head fault) = ⊥
IsUnfinished r coded width after slice_faults.Memory = Unit {0}
