-- The planes of a slice and the reader of its lines, as those of the definitions.
use Rattle.std.specs.Prelude.{◌≡◌, ℕ, zero, suc, ◌<◌, List, [], ◌∷◌, length, map, slice_index}
use Rattle.ffv1_range.specs.Setup.{RecordingValue, set_entry, set_contexts}
use Rattle.ffv1_plane.specs.SetTables.{SetTables}
use Rattle.ffv1_plane.specs.Lines.{Line}
use Rattle.ffv1_plane.specs.RangeSlices.{coded_depth_of, are_signed, slice_group}
use Rattle.ffv1_plane.specs.RangeReading.{group_states}
use Rattle.ffv1_plane.specs.Inner.Rows.{RowsRead}
use Rattle.ffv1_plane.specs.Inner.RangeLines.{PlanesCoding, LinesReader, AreLinesRead, AreLinesCut}
use Rattle.ffv1_plane.specs.declared.planes.Group.{Group}
use Rattle.ffv1_plane.specs.declared.planes.Group.TheVariants.{Luma, Chroma, Alpha}
use Rattle.ffv1_plane.specs.declared.planes.PlaneSize.{PlaneSize}
use Rattle.ffv1_plane.specs.declared.planes.SlicePlanes.{SlicePlanes}
use Rattle.ffv1_plane.specs.declared.planes.RangeLines.{RangeLines}
use Rattle.ffv1_plane.specs.declared.planes.LinesFault.{LinesFault}
use Rattle.ffv1_plane.specs.declared.planes.LinesFault.TheVariants as lines_faults
use Rattle.ffv1_plane.specs.declared.range_rows.RowFault.{RowFault}
use Rattle.ffv1_plane.specs.declared.range_rows.RowFault.TheVariants as row_faults

abbrev pub group_number : Group → ℕ
group_number Luma = 0
group_number Chroma = 1
group_number Alpha = 2

-- the tables of a group
abbrev pub group_tables : SlicePlanes → ℕ → SetTables
group_tables planes zero = planes.luma
group_tables planes (suc zero) = planes.chroma
group_tables planes (suc (suc other)) = planes.alpha

abbrev pub coding_of_planes : SlicePlanes → PlanesCoding
coding_of_planes planes =
    record {
      entry = λ group. set_entry (group_tables planes group).setup (group_tables planes group).set;
      group = slice_group planes.has_chroma;
      is_signed = planes.is_signed;
    }

abbrev pub lines_reader : RangeLines → LinesReader
lines_reader reader = record { reader = reader.decoder; states = group_states reader }

-- Each group that a plane has has a row of states a context.
abbrev pub HaveStates : SlicePlanes → RangeLines → Type 0
HaveStates planes reader =
    (p : ℕ) → p < length planes.lines.items
    → length (group_states reader (slice_group planes.has_chroma p))
    ≡ set_contexts (group_tables planes (slice_group planes.has_chroma p)).setup (group_tables planes (slice_group planes.has_chroma p)).set

-- Nothing of a plane was read.
pub record IsFresh (rows : RowsRead) : Type 0 where
  pub ended : rows.x ≡ 0
  pub empty : length rows.samples ≡ 0

abbrev pub lines_fault : RowFault → ℕ → ℕ → LinesFault
lines_fault (row_faults.Sample fault x) plane row = lines_faults.Sample fault plane row x
lines_fault row_faults.Memory plane row = lines_faults.Memory

-- Why some lines were not read: a sample of one of them is refused, or memory.
abbrev pub IsLinesFaultOf : PlanesCoding → List Line → List RowsRead → LinesReader → LinesFault → Type 0
IsLinesFaultOf c lines old r (lines_faults.Sample fault plane y x) = AreLinesCut c lines old r fault plane y x
IsLinesFaultOf c lines old r lines_faults.Memory = Unit {0}

-- Lines were read, from planes and a reader to others.
pub record HaveRead (old : SlicePlanes) (reader : RangeLines) (lines : List Line) (new : SlicePlanes) (after : RangeLines) : Type 0 where
  pub same : coding_of_planes new ≡ coding_of_planes old
  pub states : HaveStates new after
  pub read : AreLinesRead (coding_of_planes old) lines old.lines.items (lines_reader reader) new.lines.items (lines_reader after)

-- .. a line was
abbrev pub HasReadLine : SlicePlanes → RangeLines → Line → SlicePlanes → RangeLines → Type 0
HasReadLine old reader line new after = HaveRead old reader (line ∷ []) new after

-- why it was not
abbrev pub IsLineFaultOf : SlicePlanes → RangeLines → Line → LinesFault → Type 0
IsLineFaultOf planes reader line fault = IsLinesFaultOf (coding_of_planes planes) (line ∷ []) planes.lines.items (lines_reader reader) fault

-- the planes of a slice before their first sample
abbrev pub new_rows : ℕ → PlaneSize → RowsRead
new_rows depth size = record { depth = depth; width = size.width; x = 0; samples = [] }

-- Planes of these sizes, of which nothing was read, with the tables of these sets.
pub record AreNewPlanes (r : RecordingValue) (sets : List ℕ) (sizes : List PlaneSize) (planes : SlicePlanes) : Type 0 where
  pub lines : planes.lines.items ≡ map (new_rows (coded_depth_of r)) sizes
  pub luma : planes.luma ≡ record { setup = r.setup; set = slice_index sets 0 }
  pub chroma : planes.chroma ≡ record { setup = r.setup; set = slice_index sets 1 }
  pub alpha : planes.alpha ≡ record { setup = r.setup; set = slice_index sets 2 }
  pub has_chroma : planes.has_chroma ≡ r.setup.has_chroma
  pub is_signed : planes.is_signed ≡ are_signed r
