-- How far range-coded lines of several planes are read, and how their reading halts.
use Rattle.std.specs.Prelude.{◌≡◌, ℕ, ◌+◌, ◌*◌, ◌^◌, ◌<◌, ◌==◌, Bool, List, [], ◌∷◌, ◌++◌, length, get_or, ℤ, Ok, if◌then◌else◌}
use Rattle.ffv1_range.specs.Coding.{Mode, Coder}
use Rattle.ffv1_range.specs.Decoder.{Reader, reader_at}
use Rattle.ffv1_range.specs.Rows.{Rows, IsRowsRun}
use Rattle.ffv1_plane.specs.Samples.{coding_at}
use Rattle.ffv1_plane.specs.Lines.{Line, line_at}
use Rattle.ffv1_plane.specs.RangeRows.{RangePlane}
use Rattle.ffv1_plane.specs.RangeLines.{lines_bits}
use Rattle.ffv1_plane.specs.RangeSlices.{HasGroups}
use Rattle.ffv1_plane.specs.Inner.Rows.{RowsRead}
use Rattle.ffv1_plane.specs.Inner.RangeRows.{at_place, range_plane, IsRangeRowRefused}
use Rattle.ffv1_plane.specs.declared.range_rows.DifferenceFault.{DifferenceFault}

-- ---- planes

-- How planes are coded together: the entries of the tables of each group, the group of each plane, and whether predictions are of signed
-- numbers.
pub record PlanesCoding : Type 0 where
  pub entry : ℕ → ℕ → ℕ → ℤ
  pub group : ℕ → ℕ
  pub is_signed : Bool

abbrev pub no_rows : RowsRead
no_rows = record { depth = 0; width = 0; x = 0; samples = [] }

abbrev pub rows_at : List RowsRead → ℕ → RowsRead
rows_at planes p = get_or planes p no_rows

-- plane p of some that are read, and more samples of it
abbrev pub plane_with : PlanesCoding → ℕ → RowsRead → List ℕ → RangePlane
plane_with c p rows more =
    range_plane rows.width (coding_at rows.depth (c.entry (c.group p))) (c.group p) c.is_signed (rows.samples ++ more)

abbrev pub planes_with : PlanesCoding → List RowsRead → (ℕ → List ℕ) → ℕ → RangePlane
planes_with c planes more p = plane_with c p (rows_at planes p) (more p)

-- how many of some lines are of plane p
unfoldable pub count_in : ℕ → List Line → ℕ
count_in p [] = 0
count_in p (line ∷ lines) = (if line.plane == p then 1 else 0) + count_in p lines

-- samples have the bits of their depth
abbrev pub AreSmall : RowsRead → Type 0
AreSmall rows = (s : ℕ) → get_or rows.samples s 0 < 2 ^ rows.depth

-- So many more rows of a plane were read.
pub record IsGrown (count : ℕ) (old new : RowsRead) : Type 0 where
  pub depth : new.depth ≡ old.depth
  pub width : new.width ≡ old.width
  pub ended : old.x ≡ 0 → new.x ≡ 0
  pub small : AreSmall old → AreSmall new
  pub samples : List ℕ
  pub pushed : new.samples ≡ old.samples ++ samples
  pub longer : length samples ≡ count * old.width

-- ---- lines

-- a decoder, and the states of each group
pub record LinesReader : Type 0 where
  pub reader : Reader
  pub states : ℕ → List (List ℕ)

-- Lines are coded from one place up to another.
pub record LinesAfter (mode : Mode) (planes : ℕ → RangePlane) (lines : List Line) (start end : Coder) (after : ℕ → List (List ℕ)) (rows : Rows) : Type 0 where
  pub next : Rows
  pub run : IsRowsRun mode (at_place start rows) (lines_bits planes lines) (at_place end next)
  pub states : HasGroups next after

abbrev pub AreLinesCoded : Mode → (ℕ → RangePlane) → List Line → Coder → (ℕ → List (List ℕ)) → Coder → (ℕ → List (List ℕ)) → Type 0
AreLinesCoded mode planes lines start before end after = (rows : Rows) → HasGroups rows before → LinesAfter mode planes lines start end after rows

-- Lines were read. All is said of all planes that begin with the samples so far.
pub record AreLinesRead (c : PlanesCoding) (lines : List Line) (old : List RowsRead) (r : LinesReader) (new : List RowsRead) (s : LinesReader) : Type 0 where
  pub start : Coder
  pub from : r.reader.at ≡ Ok start
  pub end : Coder
  pub to : s.reader ≡ reader_at r.reader (Ok end)
  pub count : length new ≡ length old
  pub grown : (p : ℕ) → IsGrown (count_in p lines) (rows_at old p) (rows_at new p)
  pub same_states : (group : ℕ) → group < 3 → length (s.states group) ≡ length (r.states group)
  pub coded : (more : ℕ → List ℕ) → AreLinesCoded r.reader.mode (planes_with c new more) lines start r.states end s.states

-- Some of the lines were read, and a sample of the next one is refused.
pub record AreLinesCut (c : PlanesCoding) (lines : List Line) (old : List RowsRead) (r : LinesReader) (fault : DifferenceFault) (plane row x : ℕ) : Type 0 where
  pub done : List Line
  pub later : List Line
  pub order : lines ≡ done ++ line_at plane row ∷ later
  pub planes : List RowsRead
  pub reader : LinesReader
  pub read : AreLinesRead c done old r planes reader
  pub inside : plane < length planes
  pub place : length (rows_at planes plane).samples ≡ row * (rows_at planes plane).width
  pub refused :
      IsRangeRowRefused (rows_at planes plane).width (coding_at (rows_at planes plane).depth (c.entry (c.group plane))) (c.group plane) c.is_signed
      (rows_at planes plane).samples (reader.states (c.group plane)) reader.reader fault x
