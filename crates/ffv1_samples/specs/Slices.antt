-- The picture of a slice, from the whole slice to its bits (RFC 9043, sections 3.7, 3.8 and 4.5 to 4.8).
use Rattle.std.specs.Prelude.{◌≡◌, ℕ, Bool, List, map, Option}
use Rattle.ffv1_range.specs.Setup.{RecordingValue}
use Rattle.ffv1_range.specs.SliceHeader.{IsSliceHeaderOf}
use Rattle.ffv1_range.specs.declared.head.SliceHeader.{SliceHeader}
use Rattle.ffv1_range.specs.declared.head.SliceStart.{SliceStart}
use Rattle.ffv1_samples.specs.States.{SliceStatesValue, FitSlice, FitSliceBefore, AreSameStates, slice_states_value}
use Rattle.ffv1_samples.specs.Sizes.{slice_sizes}
use Rattle.ffv1_samples.specs.Pictures.{ArePicturePlanes}
use Rattle.ffv1_samples.specs.Coded.{SamplesEnd, states_at, AreCoded, EndsWith}
use Rattle.ffv1_samples.specs.declared.slice.SlicePicture.{SlicePicture}

-- What a slice is decoded to: its header, the samples of its planes, row by row, how it ends, and the states that it leaves.
pub record SlicePictureValue : Type 0 where
  pub header : SliceHeader
  pub planes : List (List ℕ)
  pub spare_bits : ℕ
  pub is_clean : Bool
  pub states : SliceStatesValue

abbrev pub slice_picture_value : SlicePicture → SlicePictureValue
slice_picture_value picture =
    record {
      header = picture.header;
      planes = map (λ plane. plane.items) picture.planes.items;
      spare_bits = picture.spare_bits;
      is_clean = picture.is_clean;
      states = slice_states_value picture.states;
    }

-- The content of a slice has this picture: it begins with the header, then come the coded planes of the picture, and then its end.
pub record IsSlicePicture (r : RecordingValue) (content : List ℕ) (first : Bool) (before : Option SliceStatesValue) (picture : SlicePictureValue) : Type 0 where
  pub start : SliceStart
  pub is_header : IsSliceHeaderOf r content first picture.header start
  pub coded : List (List ℕ)
  pub end : SamplesEnd
  pub are_coded : AreCoded r picture.header.tables (slice_sizes r picture.header) content start before coded end
  pub planes : ArePicturePlanes r coded picture.planes
  pub ends : EndsWith start end picture.spare_bits picture.is_clean
  pub states : picture.states ≡ states_at end
  pub fit : FitSlice r picture.header.tables picture.states

-- Two pictures are one, and leave the same states to each plane's group.
pub record IsSamePicture (r : RecordingValue) (picture other : SlicePictureValue) : Type 0 where
  pub header : picture.header ≡ other.header
  pub planes : picture.planes ≡ other.planes
  pub spare_bits : picture.spare_bits ≡ other.spare_bits
  pub is_clean : picture.is_clean ≡ other.is_clean
  pub states : AreSameStates r picture.states other.states

-- The states before are of the recording's coder, and have each group's contexts by the content's header.
abbrev pub FitContent : RecordingValue → List ℕ → Bool → Option SliceStatesValue → Type 0
FitContent r content first before =
    (header : SliceHeader) (start : SliceStart) → IsSliceHeaderOf r content first header start → FitSliceBefore r header.tables before
