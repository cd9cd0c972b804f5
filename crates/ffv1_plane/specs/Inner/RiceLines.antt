-- How far lines of Golomb-Rice codes of several planes are read, and how their reading halts.
use Rattle.std.specs.Prelude.{◌≡◌, ℕ, ◌*◌, ◌<◌, Bool, List, [], ◌∷◌, ◌++◌, length, ℤ}
use Rattle.ffv1_range.specs.Setup.{set_contexts}
use Rattle.ffv1_rice.specs.States.{ContextState}
use Rattle.ffv1_rice.specs.declared.code.CodeFault.{CodeFault}
use Rattle.ffv1_plane.specs.Samples.{coding_at}
use Rattle.ffv1_plane.specs.Lines.{Line, line_at, CodedPlanes, first_index, values_after_lines, LinesSpell}
use Rattle.ffv1_plane.specs.RangeSlices.{slice_group}
use Rattle.ffv1_plane.specs.RiceSlices.{is_anew_at, AreGroupsAfter}
use Rattle.ffv1_plane.specs.RiceReading.{group_codes}
use Rattle.ffv1_plane.specs.Inner.Rows.{RowsRead}
use Rattle.ffv1_plane.specs.Inner.RangeLines.{PlanesCoding, rows_at, planes_with, count_in, IsGrown}
use Rattle.ffv1_plane.specs.Inner.RiceRows.{RowPlace, IsCodeRowRefused}
use Rattle.ffv1_plane.specs.Inner.Planes.{group_tables, coding_of_planes}
use Rattle.ffv1_plane.specs.declared.planes.SlicePlanes.{SlicePlanes}
use Rattle.ffv1_plane.specs.declared.rice_planes.OpenLines.{OpenLines}
use Rattle.ffv1_plane.specs.declared.rice_planes.RiceLines.{RiceLines}
use Rattle.ffv1_plane.specs.declared.rice_planes.CodesFault.{CodesFault}
use Rattle.ffv1_plane.specs.declared.rice_planes.CodesFault.TheVariants as codes_faults
use Rattle.ffv1_plane.specs.declared.rice_rows.RowCodesFault.{RowCodesFault}
use Rattle.ffv1_plane.specs.declared.rice_rows.RowCodesFault.TheVariants as row_faults

-- the bits that are left, the run index, and the states of each group
pub record CodesPlace : Type 0 where
  pub left : List Bool
  pub index : ℕ
  pub states : ℕ → List ContextState

-- a reader on its way as one of lines
abbrev pub rice_lines : OpenLines → RiceLines
rice_lines reader = record { bits = reader.codes.bits; luma = reader.luma; chroma = reader.chroma; alpha = reader.alpha }

abbrev pub codes_place : OpenLines → CodesPlace
codes_place reader = record { left = reader.codes.bits.left; index = reader.codes.index; states = group_codes (rice_lines reader) }

-- planes that are read, and more samples of each, as they are coded together
abbrev pub coded_with : Bool → PlanesCoding → List RowsRead → (ℕ → List ℕ) → CodedPlanes
coded_with is_rgb c planes more = record { plane = λ p. (planes_with c planes more p).plane; group = c.group; is_anew = is_anew_at is_rgb }

-- where a row of a plane begins
abbrev pub row_start : Bool → PlanesCoding → ℕ → ℕ → RowsRead → CodesPlace → RowPlace
row_start is_rgb c plane row rows r =
    record {
      samples = rows.samples;
      index = first_index (coded_with is_rgb c [] (λ p. [])) r.index (line_at plane row);
      states = r.states (c.group plane);
      left = r.left;
    }

-- the samples of each plane have n bits
abbrev pub HaveDepth : ℕ → List RowsRead → Type 0
HaveDepth n planes = (p : ℕ) → p < length planes → (rows_at planes p).depth ≡ n

-- Bits begin with those of lines, after earlier values of n bits, from a place to another.
pub record AreLinesFirst (n : ℕ) (c : CodedPlanes) (values : ℕ → ℕ → List ℤ) (lines : List Line) (a b : CodesPlace) : Type 0 where
  pub front : List Bool
  pub begins : a.left ≡ front ++ b.left
  pub spells : LinesSpell c values a.index lines front b.index
  pub states_are : AreGroupsAfter n (values_after_lines c values lines) b.states

-- Lines were read. All is said of all planes that begin with the samples so far, and of all values that have left the states.
pub record AreCodesRead (is_rgb : Bool) (c : PlanesCoding) (lines : List Line) (old : List RowsRead) (a : CodesPlace) (new : List RowsRead) (b : CodesPlace) : Type 0 where
  pub count : length new ≡ length old
  pub grown : (p : ℕ) → IsGrown (count_in p lines) (rows_at old p) (rows_at new p)
  pub same_states : (group : ℕ) → group < 3 → length (b.states group) ≡ length (a.states group)
  pub spelled : (n : ℕ) → HaveDepth n old → (values : ℕ → ℕ → List ℤ) → AreGroupsAfter n values a.states → (more : ℕ → List ℕ)
      → AreLinesFirst n (coded_with is_rgb c new more) values lines a b

-- Some of the lines were read, and a sample of the next one is refused.
pub record AreCodesCut (is_rgb : Bool) (c : PlanesCoding) (lines : List Line) (old : List RowsRead) (a : CodesPlace) (fault : CodeFault) (plane row x : ℕ) : Type 0 where
  pub done : List Line
  pub later : List Line
  pub order : lines ≡ done ++ line_at plane row ∷ later
  pub planes : List RowsRead
  pub here : CodesPlace
  pub read : AreCodesRead is_rgb c done old a planes here
  pub inside : plane < length planes
  pub place : length (rows_at planes plane).samples ≡ row * (rows_at planes plane).width
  pub refused :
      IsCodeRowRefused (rows_at planes plane).width (coding_at (rows_at planes plane).depth (c.entry (c.group plane)))
      (row_start is_rgb c plane row (rows_at planes plane) here) fault x

-- ---- the reader of the code

-- Each group that a plane has has a state a context.
abbrev pub HaveCodes : SlicePlanes → OpenLines → Type 0
HaveCodes planes reader =
    (p : ℕ) → p < length planes.lines.items
    → length (group_codes (rice_lines reader) (slice_group planes.has_chroma p))
    ≡ set_contexts (group_tables planes (slice_group planes.has_chroma p)).setup (group_tables planes (slice_group planes.has_chroma p)).set

abbrev pub codes_fault : RowCodesFault → ℕ → ℕ → CodesFault
codes_fault (row_faults.Sample fault x) plane row = codes_faults.Sample fault plane row x
codes_fault row_faults.Memory plane row = codes_faults.Memory

-- Why some lines were not read: a sample of one of them is refused, or memory.
abbrev pub IsCutFor : Bool → PlanesCoding → List Line → List RowsRead → CodesPlace → CodesFault → Type 0
IsCutFor is_rgb c lines old a (codes_faults.Sample fault plane y x) = AreCodesCut is_rgb c lines old a fault plane y x
IsCutFor is_rgb c lines old a codes_faults.Memory = Unit {0}

-- Lines were read, from planes and a reader to others.
pub record HaveReadCodes (old : SlicePlanes) (reader : OpenLines) (lines : List Line) (new : SlicePlanes) (after : OpenLines) : Type 0 where
  pub same : coding_of_planes new ≡ coding_of_planes old
  pub states : HaveCodes new after
  pub rgb : after.is_rgb ≡ reader.is_rgb
  pub read : AreCodesRead reader.is_rgb (coding_of_planes old) lines old.lines.items (codes_place reader) new.lines.items (codes_place after)

-- .. a line was
abbrev pub HasReadCodesOf : SlicePlanes → OpenLines → Line → SlicePlanes → OpenLines → Type 0
HasReadCodesOf old reader line new after = HaveReadCodes old reader (line ∷ []) new after

-- why it was not
abbrev pub IsCodesFaultAt : SlicePlanes → OpenLines → Line → CodesFault → Type 0
IsCodesFaultAt planes reader line fault = IsCutFor reader.is_rgb (coding_of_planes planes) (line ∷ []) planes.lines.items (codes_place reader) fault
