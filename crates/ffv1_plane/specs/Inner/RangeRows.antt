-- How far a row of range-coded samples is read, and how its reading halts.
use Rattle.std.specs.Prelude.{◌≡◌, ◌≢◌, ℕ, ◌+◌, ◌*◌, ◌<◌, ◌^◌, Bool, List, [], ◌∷◌, ◌++◌, length, get_or, set, ℤ, nat_abs, slice_index_or, Ok, Err}
use Rattle.ffv1_range.specs.Coding.{Mode, Coder, Place, PlaceOf, IsRangeRun}
use Rattle.ffv1_range.specs.Decoder.{Reader, reader_at}
use Rattle.ffv1_range.specs.Rows.{Rows, IsRowsRun}
use Rattle.ffv1_range.specs.Setup.{set_entry}
use Rattle.ffv1_range.specs.Symbols.{signed_symbol_bits}
use Rattle.ffv1_plane.specs.Samples.{Coding, coding_at, plane_of, context_at, context_of, neighbours_at}
use Rattle.ffv1_plane.specs.SetTables.{SetTables}
use Rattle.ffv1_plane.specs.Inner.Rows.{RowsRead}
use Rattle.ffv1_plane.specs.RangeRows.{RangePlane, range_difference_at, state_row, columns_bits, difference_form}
use Rattle.ffv1_plane.specs.declared.range_rows.DifferenceFault.{DifferenceFault}
use Rattle.ffv1_plane.specs.declared.range_rows.RowFault.{RowFault}
use Rattle.ffv1_plane.specs.declared.range_rows.RowFault.TheVariants as row_faults

-- a coder at a place with states
abbrev pub at_place : {X : Type 0} → Coder → X → PlaceOf X
at_place coder states = record { coder = coder; states = states }

-- some samples as those of a plane that is range-coded
abbrev pub range_plane : ℕ → Coding → ℕ → Bool → List ℕ → RangePlane
range_plane width coding group is_signed samples = record { plane = plane_of width coding samples; group = group; is_signed = is_signed }

-- the rows of a group are these states, one a context
abbrev pub HasRowsOf : ℕ → Rows → List (List ℕ) → Type 0
HasRowsOf group rows states = (k : ℕ) → k < length states → rows (state_row group k) ≡ slice_index_or states k []

-- the rows of the other groups are the same
abbrev pub KeepsOthers : ℕ → Rows → Rows → Type 0
KeepsOthers group before after = (other k : ℕ) → other < 3 → other ≢ group → after (state_row other k) ≡ before (state_row other k)

-- The first x samples of row y are coded from one place up to another, whatever the rows of other groups are.
pub record RowsAfter (mode : Mode) (r : RangePlane) (y x : ℕ) (start : Coder) (end : Coder) (after : List (List ℕ)) (rows : Rows) : Type 0 where
  pub next : Rows
  pub run : IsRowsRun mode (at_place start rows) (columns_bits r y x) (at_place end next)
  pub states : HasRowsOf r.group next after
  pub others : KeepsOthers r.group rows next

abbrev pub AreColumnsCoded : Mode → RangePlane → ℕ → ℕ → Coder → List (List ℕ) → Coder → List (List ℕ) → Type 0
AreColumnsCoded mode r y x start before end after = (rows : Rows) → HasRowsOf r.group rows before → RowsAfter mode r y x start end after rows

-- Reading changes neither the depth nor the width.
pub record IsSameShape (old new : RowsRead) : Type 0 where
  pub depth : new.depth ≡ old.depth
  pub width : new.width ≡ old.width

-- The next sample is read at a decoder and the states of its group. All is said of every plane that begins with the samples and it.
pub record IsRangeSampleRead (width : ℕ) (coding : Coding) (group : ℕ) (is_signed : Bool) (old : List ℕ) (states : List (List ℕ)) (r : Reader) (new : List ℕ)
    (after : List (List ℕ)) (s : Reader) : Type 0 where
  pub sample : ℕ
  pub pushed : new ≡ old ++ sample ∷ []
  pub context : ℕ
  pub is_context : (more : List ℕ) → nat_abs (context_at (plane_of width coding (new ++ more)) (length old)) ≡ context
  pub below : context < length states
  pub difference : ℤ
  pub is_difference : (more : List ℕ) → range_difference_at (range_plane width coding group is_signed (new ++ more)) (length old) ≡ difference
  pub start : Coder
  pub from : r.at ≡ Ok start
  pub end : Place
  pub run : IsRangeRun r.mode (at_place start (slice_index_or states context [])) (signed_symbol_bits difference) end
  pub to : s ≡ reader_at r (Ok end.coder)
  pub stepped : after ≡ set states context end.states

-- the context of the next sample
abbrev pub next_row : ℕ → Coding → List ℕ → ℕ
next_row width coding samples = nat_abs (context_of coding.entry (neighbours_at width samples (length samples)))

-- The next sample is refused at a decoder and the states of its group.
pub record IsRangeSampleRefused (width : ℕ) (coding : Coding) (samples : List ℕ) (states : List (List ℕ)) (r : Reader) (fault : DifferenceFault) : Type 0 where
  pub below : next_row width coding samples < length states
  pub start : Coder
  pub from : r.at ≡ Ok start
  pub refused : difference_form coding.depth r.mode (at_place start (slice_index_or states (next_row width coding samples) [])) ≡ Err fault

-- Row y was read, which begins after these samples.
pub record IsRangeRowRead (width : ℕ) (coding : Coding) (group : ℕ) (is_signed : Bool) (old : List ℕ) (states : List (List ℕ)) (r : Reader) (new : List ℕ)
    (after : List (List ℕ)) (s : Reader) (x : ℕ) : Type 0 where
  pub start : Coder
  pub from : r.at ≡ Ok start
  pub end : Coder
  pub to : s ≡ reader_at r (Ok end)
  pub row : List ℕ
  pub pushed : new ≡ old ++ row
  pub count : length new ≡ length old + x
  pub same_states : length after ≡ length states
  pub coded : (more : List ℕ) (y : ℕ) → length old ≡ y * width
      → AreColumnsCoded r.mode (range_plane width coding group is_signed (new ++ more)) y x start states end after

-- Some samples of the row were read, and the next one is refused.
pub record IsRangeRowRefused (width : ℕ) (coding : Coding) (group : ℕ) (is_signed : Bool) (old : List ℕ) (states : List (List ℕ)) (r : Reader)
    (fault : DifferenceFault) (x : ℕ) : Type 0 where
  pub inside : x < width
  pub samples : List ℕ
  pub small : (s : ℕ) → get_or samples s 0 < 2 ^ coding.depth
  pub after : List (List ℕ)
  pub reader : Reader
  pub read : IsRangeRowRead width coding group is_signed old states r samples after reader x
  pub refused : IsRangeSampleRefused width coding samples after reader fault

-- The next row of a plane was read by these tables, whatever its group is ..
abbrev pub IsNextRowRead : RowsRead → SetTables → Bool → List (List ℕ) → Reader → RowsRead → List (List ℕ) → Reader → Type 0
IsNextRowRead old tables is_signed states r new after s =
    (group : ℕ) → group < 3
    → IsRangeRowRead old.width (coding_at old.depth (set_entry tables.setup tables.set)) group is_signed old.samples states r new.samples after s old.width

-- .. or a sample of it is refused.
abbrev pub IsNextRowRefused : RowsRead → SetTables → Bool → List (List ℕ) → Reader → DifferenceFault → ℕ → Type 0
IsNextRowRefused old tables is_signed states r fault x =
    (group : ℕ) → group < 3
    → IsRangeRowRefused old.width (coding_at old.depth (set_entry tables.setup tables.set)) group is_signed old.samples states r fault x

-- Why a row was not read: a sample of it is refused, whatever the group is, or memory.
abbrev pub IsRowFaultOf : ℕ → Coding → Bool → List ℕ → List (List ℕ) → Reader → RowFault → Type 0
IsRowFaultOf width coding is_signed old states r (row_faults.Sample fault x) =
    (group : ℕ) → group < 3 → IsRangeRowRefused width coding group is_signed old states r fault x
IsRowFaultOf width coding is_signed old states r row_faults.Memory = Unit {0}
