-- The planes of a slice as its content codes them after the header, by either coder: up to which place, and where it can't be read on (RFC 9043,
-- sections 3.8 and 4.7).
use Rattle.std.specs.Prelude.{◌≡◌, ℕ, ◌*◌, Bool, not, ◌&&◌, nat_lt, List, length, drop, ℤ, Option, Ok, Err}
use Rattle.std.specs.List.{list_all}
use Rattle.ffv1_bits.specs.Bits.{bits_of}
use Rattle.ffv1_range.specs.Coding.{Coder}
use Rattle.ffv1_range.specs.Decoder.{Reader, reader_at, EndsSo, is_clean}
use Rattle.ffv1_range.specs.Setup.{RecordingValue}
use Rattle.ffv1_range.specs.declared.coding.RangeEnd.{RangeEnd}
use Rattle.ffv1_range.specs.declared.coding.RangeFault.{RangeFault}
use Rattle.ffv1_range.specs.declared.head.SliceStart.{SliceStart}
use Rattle.ffv1_range.specs.declared.head.SliceStart.TheVariants.{Codes, Samples}
use Rattle.ffv1_plane.specs.RangeSlices.{slice_shape, coded_depth_of, ArePlanesOfSizes, ArePlanesCoded, AreLinesStuck}
use Rattle.ffv1_plane.specs.RiceSlices.{values_after_planes, AreGroupsAfter, ArePlanesSpelled, AreCodesStuck}
use Rattle.ffv1_rice.specs.States.{ContextState}
use Rattle.ffv1_rice.specs.declared.code.CodeFault.{CodeFault}
use Rattle.ffv1_plane.specs.declared.planes.PlaneSize.{PlaneSize}
use Rattle.ffv1_plane.specs.declared.range_rows.DifferenceFault.{DifferenceFault}
use Rattle.ffv1_plane.specs.declared.range_rows.DifferenceFault.TheVariants as difference_faults
use Rattle.ffv1_samples.specs.States.{GroupsOf, states_of_group, SliceStatesValue, range_states, rice_states, rows_before, codes_before}
use Rattle.ffv1_samples.specs.declared.faults.SampleFault.{SampleFault}
use Rattle.ffv1_samples.specs.declared.faults.SampleFault.TheVariants as sample_faults

-- what follows the last sample: where the range coder is there, or which bits are left; and the states of each group
pub data SamplesEnd : Type 0 where
  range_end : Coder → GroupsOf (List ℕ) → SamplesEnd
  rice_end : List Bool → GroupsOf ContextState → SamplesEnd

abbrev pub states_at : SamplesEnd → SliceStatesValue
states_at (range_end last after) = range_states after
states_at (rice_end rest after) = rice_states after

-- ---- planes

-- Where the decoder is, range-coded planes begin, with the states of each group before them, up to a place with the states after.
pub record AreRangeCoded (r : RecordingValue) (sets : List ℕ) (sizes : List PlaneSize) (decoder : Reader) (before : ℕ → List (List ℕ)) (planes : List (List ℕ))
    (last : Coder) (after : GroupsOf (List ℕ)) : Type 0 where
  pub start : Coder
  pub from : decoder.at ≡ Ok start
  pub coded : ArePlanesCoded decoder.mode (slice_shape r sets sizes) start before planes last (states_of_group after)

-- Whichever values have left the states before, the bits begin with the planes after these, and the states after are what all values have left.
pub record AreCodesCoded (r : RecordingValue) (sets : List ℕ) (sizes : List PlaneSize) (bits : List Bool) (before : ℕ → List ContextState) (planes : List (List ℕ))
    (rest : List Bool) (after : GroupsOf ContextState) : Type 0 where
  pub sizes_are : ArePlanesOfSizes (coded_depth_of r) sizes planes
  pub spelled : (values : ℕ → ℕ → List ℤ) → AreGroupsAfter (coded_depth_of r) values before → ArePlanesSpelled (slice_shape r sets sizes) values bits planes rest
  pub left : (values : ℕ → ℕ → List ℤ) → AreGroupsAfter (coded_depth_of r) values before
      → AreGroupsAfter (coded_depth_of r) (values_after_planes (slice_shape r sets sizes) planes values) (states_of_group after)

-- Planes of these sizes are coded in a content after its header, by the table sets of the three groups and with the states before, up to an end.
abbrev pub AreCoded : RecordingValue → List ℕ → List PlaneSize → List ℕ → SliceStart → Option SliceStatesValue → List (List ℕ) → SamplesEnd → Type 0
AreCoded r sets sizes content (Samples decoder) before planes (range_end last after) =
    AreRangeCoded r sets sizes decoder (rows_before r sets before) planes last after
AreCoded r sets sizes content (Codes place) before planes (rice_end rest after) =
    AreCodesCoded r sets sizes (bits_of (drop place content)) (codes_before r sets before) planes rest after
AreCoded r sets sizes content start before planes end = ⊥

-- the same up to some place, whichever it is
pub record AreCodesBegun (r : RecordingValue) (sets : List ℕ) (sizes : List PlaneSize) (bits : List Bool) (before : ℕ → List ContextState) (planes : List (List ℕ)) : Type 0 where
  pub sizes_are : ArePlanesOfSizes (coded_depth_of r) sizes planes
  pub spelled : (values : ℕ → ℕ → List ℤ) → AreGroupsAfter (coded_depth_of r) values before
      → (rest : List Bool) × ArePlanesSpelled (slice_shape r sets sizes) values bits planes rest

-- Planes of these sizes are coded so, up to some place.
abbrev pub AreBegun : RecordingValue → List ℕ → List PlaneSize → List ℕ → SliceStart → Option SliceStatesValue → List (List ℕ) → Type 0
AreBegun r sets sizes content (Samples decoder) before planes =
    (last : Coder) × (after : GroupsOf (List ℕ)) × AreRangeCoded r sets sizes decoder (rows_before r sets before) planes last after
AreBegun r sets sizes content (Codes place) before planes =
    AreCodesBegun r sets sizes (bits_of (drop place content)) (codes_before r sets before) planes

-- ---- where they can't be read on

abbrev pub sample_fault_of : DifferenceFault → SampleFault
sample_fault_of difference_faults.Short = sample_faults.Short
sample_fault_of difference_faults.TooLarge = sample_faults.DifferenceTooLarge

-- The difference of a sample is refused.
pub record IsRangeStuck (r : RecordingValue) (sets : List ℕ) (sizes : List PlaneSize) (decoder : Reader) (before : ℕ → List (List ℕ)) (fault : SampleFault)
    (plane y x : ℕ) : Type 0 where
  pub start : Coder
  pub from : decoder.at ≡ Ok start
  pub difference : DifferenceFault
  pub is : fault ≡ sample_fault_of difference
  pub stuck : AreLinesStuck decoder.mode (slice_shape r sets sizes) start before difference plane y x

-- No word or code of a sample can be read, whichever values have left the states before.
pub record AreCodesRefused (r : RecordingValue) (sets : List ℕ) (sizes : List PlaneSize) (bits : List Bool) (before : ℕ → List ContextState) (fault : SampleFault)
    (plane y x : ℕ) : Type 0 where
  pub code : CodeFault
  pub is : fault ≡ sample_faults.Code code
  pub stuck : (values : ℕ → ℕ → List ℤ) → AreGroupsAfter (coded_depth_of r) values before → AreCodesStuck (slice_shape r sets sizes) values bits code plane y x

-- The content is stuck at a sample of such planes, for this fault.
abbrev pub IsStuck : RecordingValue → List ℕ → List PlaneSize → List ℕ → SliceStart → Option SliceStatesValue → SampleFault → ℕ → ℕ → ℕ → Type 0
IsStuck r sets sizes content (Samples decoder) before fault plane y x = IsRangeStuck r sets sizes decoder (rows_before r sets before) fault plane y x
IsStuck r sets sizes content (Codes place) before fault plane y x =
    AreCodesRefused r sets sizes (bits_of (drop place content)) (codes_before r sets before) fault plane y x

-- ---- how a slice ends

-- Of Golomb-Rice codes the bits that are left are spare. An end is clean where they are fewer than 8, and all are 0.
abbrev pub is_clean_rest : List Bool → Bool
is_clean_rest rest = nat_lt (length rest) 8 && list_all not rest

-- Of range-coded slices one bit at state 129 follows the last sample; bytes that were not read then are spare. An end is clean where there are none, the bit is 0,
-- and the offset is below 256.
abbrev pub EndsWith : SliceStart → SamplesEnd → ℕ → Bool → Type 0
EndsWith (Samples decoder) (range_end last after) spare_bits clean =
    (end : RangeEnd) × EndsSo (reader_at decoder (Ok last)) (Ok end) × (spare_bits ≡ 8 * end.spare) × (clean ≡ is_clean end)
EndsWith (Codes place) (rice_end rest after) spare_bits clean = (spare_bits ≡ length rest) × (clean ≡ is_clean_rest rest)
EndsWith start end spare_bits clean = ⊥

-- that bit can't be read
abbrev pub HasNoEnd : SliceStart → SamplesEnd → Type 0
HasNoEnd (Samples decoder) (range_end last after) = (fault : RangeFault) × EndsSo (reader_at decoder (Ok last)) (Err fault)
HasNoEnd start end = ⊥
