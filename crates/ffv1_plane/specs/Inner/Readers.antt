-- How far a reader of a plane has come, and how it halts: the notions of Progress and Halts at a reader.
use Rattle.std.specs.Prelude.{◌≡◌, ℕ, ◌+◌, ◌<◌, ◌^◌, Bool, List, length, slice_index}
use Rattle.ffv1_plane.specs.Samples.{Coding, coding_at}
use Rattle.ffv1_range.specs.Setup.{set_contexts, set_entry}
use Rattle.ffv1_plane.specs.Inner.Progress.{IsContinued, RowStart, IsReadTo}
use Rattle.ffv1_plane.specs.Inner.Halts.{IsNextHalted}
use Rattle.ffv1_plane.specs.declared.plane.PlaneReader.{PlaneReader}
use Rattle.ffv1_plane.specs.declared.plane.PlaneFault.{PlaneFault}

-- how its samples are coded
abbrev pub coding_of : PlaneReader → Coding
coding_of reader = coding_at reader.lines.depth (set_entry reader.tables.now.setup reader.tables.now.set)

-- It has a state for each context of its tables.
abbrev pub HasStates : PlaneReader → Type 0
HasStates reader = length reader.states.items ≡ set_contexts reader.tables.now.setup reader.tables.now.set

-- Reading changes neither the depth, nor the width, nor the tables, nor how many states there are.
pub record IsSamePlane (old new : PlaneReader) : Type 0 where
  pub depth : new.lines.depth ≡ old.lines.depth
  pub width : new.lines.width ≡ old.lines.width
  pub tables : new.tables.now ≡ old.tables.now
  pub states : length new.states.items ≡ length old.states.items

-- The samples of its row are read from bits, up to those that are left.
abbrev pub HasRead : RowStart → List Bool → PlaneReader → Type 0
HasRead start bits reader =
    IsReadTo start reader.lines.width (coding_of reader) bits reader.lines.samples reader.lines.x reader.index reader.states.items reader.bits.left

-- A row was read from its first sample.
pub record HasReadRow (old new : PlaneReader) : Type 0 where
  pub read : (start : RowStart) (whole : List Bool) → HasRead start whole old → HasRead start whole new
  pub continued : IsContinued old.lines.samples new.lines.samples
  pub full : new.lines.x ≡ new.lines.width
  pub count : length new.lines.samples ≡ length old.lines.samples + old.lines.width
  pub small : (s : ℕ) → slice_index new.lines.samples s < 2 ^ old.lines.depth

-- No word of the next samples of its row can be read.
abbrev pub IsHaltedAt : PlaneReader → PlaneFault → Type 0
IsHaltedAt reader fault =
    IsNextHalted reader.lines.width (coding_of reader) reader.lines.samples reader.lines.x reader.index reader.states.items reader.bits.left fault
