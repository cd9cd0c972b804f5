-- Why the content of a slice has no picture (RFC 9043, sections 3.7, 3.8 and 4.5 to 4.8).
use Rattle.std.specs.Prelude.{◌≡◌, ℕ, ◌+◌, ◌*◌, ◌<◌, ◌≤◌, Bool, true, List, Option, Err}
use Rattle.ffv1_range.specs.Setup.{RecordingValue}
use Rattle.ffv1_range.specs.SliceHeader.{IsSliceHeaderOf, slice_header_read}
use Rattle.ffv1_range.specs.declared.head.SliceHeader.{SliceHeader}
use Rattle.ffv1_range.specs.declared.head.SliceStart.{SliceStart}
use Rattle.ffv1_plane.specs.FirstRows.{rows_to}
use Rattle.ffv1_samples.specs.States.{SliceStatesValue}
use Rattle.ffv1_samples.specs.Sizes.{slice_rect, slice_sizes}
use Rattle.ffv1_samples.specs.Pictures.{HaveColors, IsFirstSample}
use Rattle.ffv1_samples.specs.Coded.{SamplesEnd, AreCoded, AreBegun, IsStuck, HasNoEnd}
use Rattle.ffv1_samples.specs.declared.faults.SampleFault.{SampleFault}
use Rattle.ffv1_samples.specs.declared.faults.SampleFault.TheVariants.{ColorTooLarge}
use Rattle.ffv1_samples.specs.declared.faults.SliceFault.{SliceFault}
use Rattle.ffv1_samples.specs.declared.faults.SliceFault.TheVariants.{Head, Code, End, Memory}

-- So many first rows of the slice's planes are coded.
abbrev pub AreRowsCoded : RecordingValue → List ℕ → SliceHeader → SliceStart → Option SliceStatesValue → ℕ → List (List ℕ) → Type 0
AreRowsCoded r content header start before rows coded = AreBegun r header.tables (rows_to rows (slice_sizes r header)) content start before coded

-- The rows of RGB before row y are coded of colours.
abbrev pub HaveRowsColors : RecordingValue → List ℕ → SliceHeader → SliceStart → Option SliceStatesValue → ℕ → Type 0
HaveRowsColors r content header start before y =
    r.is_rgb ≡ true → (coded : List (List ℕ)) × AreRowsCoded r content header start before y coded × HaveColors r coded

-- A sample of RGB or of alpha is no number of the picture's bits, and each one before it is: rows upwards, in a row columns upwards, there
-- G, B, R and alpha. The rows up to its own can be read.
pub record IsColorTooLarge (r : RecordingValue) (content : List ℕ) (header : SliceHeader) (start : SliceStart) (before : Option SliceStatesValue) (plane y x : ℕ) : Type 0 where
  pub colors : r.is_rgb ≡ true
  pub rows : ℕ
  pub few : rows ≤ (slice_rect r header).h
  pub coded : List (List ℕ)
  pub are_coded : AreRowsCoded r content header start before rows coded
  pub column : x < (slice_rect r header).w
  pub first : IsFirstSample r coded (y * (slice_rect r header).w + x) plane

-- A sample is refused so. Colours are judged row by row, once all planes of a row were read: so those of the rows before a symbol or a code
-- that can't be read come before it.
abbrev pub IsSampleFault : RecordingValue → List ℕ → SliceHeader → SliceStart → Option SliceStatesValue → SampleFault → ℕ → ℕ → ℕ → Type 0
IsSampleFault r content header start before ColorTooLarge plane y x = IsColorTooLarge r content header start before plane y x
IsSampleFault r content header start before fault plane y x =
    IsStuck r header.tables (slice_sizes r header) content start before fault plane y x × HaveRowsColors r content header start before y

-- The planes are coded, of colours where they are RGB, and then the slice has no end.
pub record IsEndRefused (r : RecordingValue) (content : List ℕ) (header : SliceHeader) (start : SliceStart) (before : Option SliceStatesValue) : Type 0 where
  pub coded : List (List ℕ)
  pub end : SamplesEnd
  pub are_coded : AreCoded r header.tables (slice_sizes r header) content start before coded end
  pub colors : r.is_rgb ≡ true → HaveColors r coded
  pub refused : HasNoEnd start end

-- The content begins with a header, and what follows it is so.
abbrev pub AfterHeader : RecordingValue → List ℕ → Bool → (SliceHeader → SliceStart → Type 0) → Type 0
AfterHeader r content first P = (header : SliceHeader) × (start : SliceStart) × IsSliceHeaderOf r content first header start × P header start

-- A content is refused so: its header can't be read, or a sample, or its end.
abbrev pub IsSliceFault : RecordingValue → List ℕ → Bool → Option SliceStatesValue → SliceFault → Type 0
IsSliceFault r content first before (Head fault) = slice_header_read r content first ≡ Err fault
IsSliceFault r content first before (Code fault plane y x) =
    AfterHeader r content first (λ header start. IsSampleFault r content header start before fault plane y x)
IsSliceFault r content first before End = AfterHeader r content first (λ header start. IsEndRefused r content header start before)
IsSliceFault r content first before Memory = ⊥
