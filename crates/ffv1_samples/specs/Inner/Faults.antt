-- What the first rows of RGB that are read again give.
use Rattle.std.specs.Prelude.{◌≡◌, ℕ, Bool, List, Option, Err}
use Rattle.ffv1_range.specs.Setup.{RecordingValue}
use Rattle.ffv1_range.specs.SliceHeader.{slice_header_read}
use Rattle.ffv1_range.specs.declared.head.SliceHeader.{SliceHeader}
use Rattle.ffv1_range.specs.declared.head.SliceStart.{SliceStart}
use Rattle.ffv1_plane.specs.FirstRows.{rows_to}
use Rattle.ffv1_samples.specs.States.{SliceStatesValue}
use Rattle.ffv1_samples.specs.Sizes.{slice_sizes}
use Rattle.ffv1_samples.specs.Pictures.{HaveColors}
use Rattle.ffv1_samples.specs.Coded.{IsStuck}
use Rattle.ffv1_samples.specs.Faults.{AreRowsCoded, IsColorTooLarge, AfterHeader}
use Rattle.ffv1_samples.specs.declared.faults.SampleFault.{SampleFault}
use Rattle.ffv1_samples.specs.declared.faults.SampleFault.TheVariants.{ColorTooLarge}
use Rattle.ffv1_samples.specs.declared.faults.SliceFault.{SliceFault}
use Rattle.ffv1_samples.specs.declared.faults.SliceFault.TheVariants.{Head, Code, End, Memory}

-- the first rows are coded of colours
abbrev pub HaveFirstColors : RecordingValue → List ℕ → Bool → Option SliceStatesValue → ℕ → Type 0
HaveFirstColors r content first before rows =
    AfterHeader r content first (λ header start. (coded : List (List ℕ)) × AreRowsCoded r content header start before rows coded × HaveColors r coded)

-- a sample of them is refused
abbrev pub IsRowsSampleFault : RecordingValue → List ℕ → SliceHeader → SliceStart → Option SliceStatesValue → ℕ → SampleFault → ℕ → ℕ → ℕ → Type 0
IsRowsSampleFault r content header start before rows ColorTooLarge plane y x = IsColorTooLarge r content header start before plane y x
IsRowsSampleFault r content header start before rows fault plane y x =
    IsStuck r header.tables (rows_to rows (slice_sizes r header)) content start before fault plane y x

abbrev pub IsRowsFault : RecordingValue → List ℕ → Bool → Option SliceStatesValue → ℕ → SliceFault → Type 0
IsRowsFault r content first before rows (Head fault) = slice_header_read r content first ≡ Err fault
IsRowsFault r content first before rows (Code fault plane y x) =
    AfterHeader r content first (λ header start. IsRowsSampleFault r content header start before rows fault plane y x)
IsRowsFault r content first before rows End = ⊥
IsRowsFault r content first before rows Memory = Unit {0}
