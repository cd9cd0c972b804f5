-- What a recording shows where it is compared with what was asked for.
use Rattle.std.specs.Prelude.{◌≡◌, ◌<◌, ◌≤◌, ℕ, [], List, slice_index, slice_index_or}
use Rattle.ffv1_range.specs.InitialStates.{uncoded_states}
use Rattle.ffv1_range.specs.Setup.{RecordingValue, IsRecordingOf, no_set, set_contexts}
use Rattle.ffv1_range.specs.Tables.{IsTableSet, halves_of, set_of}
use Rattle.ffv1_range.specs.declared.transitions.Transitions.{Transitions}
use Rattle.ffv1_makings.specs.Asked.{asked_tables, asked_states}
use Rattle.ffv1_makings.specs.declared.spec.RecordingSpec.{RecordingSpec}
use Rattle.ffv1_makings.specs.declared.spec.SetSpec.{SetSpec}

-- It is the recording of some record.
pub record IsRecorded (r : RecordingValue) : Type 0 where
  pub config : List ℕ
  pub width : ℕ
  pub height : ℕ
  pub is : IsRecordingOf config width height r

-- How samples are coded is what was asked for, but for the transitions.
pub record ShowsFields (r : RecordingValue) (spec : RecordingSpec) : Type 0 where
  pub micro : r.setup.micro ≡ spec.micro
  pub coder : r.coder ≡ spec.coder
  pub ec : r.setup.ec ≡ spec.ec
  pub intra : r.setup.intra ≡ spec.intra
  pub across : r.setup.across ≡ spec.across
  pub down : r.setup.down ≡ spec.down

-- Each state but 0 becomes the same after a bit 1.
abbrev pub HaveSameOnes : Transitions → Transitions → Type 0
HaveSameOnes a b = (state : ℕ) → 1 ≤ state → state < 256 → slice_index a.one state ≡ slice_index b.one state

-- entry `index` of the first half of a table
abbrev pub half_entry : RecordingValue → ℕ → ℕ → ℕ → ℕ
half_entry r set table index = slice_index (slice_index_or (slice_index_or r.setup.sets set no_set).halves table []) index

-- The first half of a table of a set is this one.
abbrev pub ShowsHalf : RecordingValue → ℕ → ℕ → List ℕ → Type 0
ShowsHalf r set table half = (index : ℕ) → index < 128 → half_entry r set table index ≡ slice_index half index

-- A set has these tables, which are a set of tables.
pub record ShowsTables (r : RecordingValue) (set : ℕ) (tables : List (List ℕ)) : Type 0 where
  pub is_set : IsTableSet tables
  pub halves : (table : ℕ) → table < 5 → ShowsHalf r set table (slice_index_or (halves_of 1 tables) table [])
  pub contexts : set_contexts r.setup set ≡ (set_of tables).contexts

-- A set is what was asked for.
pub record ShowsSet (r : RecordingValue) (coder set : ℕ) (asked : SetSpec) : Type 0 where
  pub tables : ShowsTables r set (asked_tables asked)
  pub states : slice_index_or r.states set uncoded_states ≡ asked_states coder asked.states.items
