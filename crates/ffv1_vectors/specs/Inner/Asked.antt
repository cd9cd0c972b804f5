-- The parts of a record that have what is asked.
use Rattle.std.specs.Prelude.{◌≡◌, ℕ, ◌+◌, ◌*◌, ◌<◌, ◌/◌, List, [], ◌∷◌, length, pos, if◌then◌else◌}
use Rattle.ffv1_range.specs.Setup.{SetupValue, set_contexts, set_entry}
use Rattle.ffv1_range.specs.Tables.{runs_ended, scale_after, scale_after_all}
use Rattle.ffv1_vectors.specs.declared.record.RecordSpec.{RecordSpec}

-- the setup's values but for its tables
pub record HasAskedFields (setup : SetupValue) (spec : RecordSpec) : Type 0 where
  pub micro : setup.micro ≡ spec.micro
  pub has_chroma : setup.has_chroma ≡ spec.has_chroma
  pub shift_h : setup.shift_h ≡ (if spec.has_chroma then spec.shift_h else 0)
  pub shift_v : setup.shift_v ≡ (if spec.has_chroma then spec.shift_v else 0)
  pub across : setup.across ≡ spec.across
  pub down : setup.down ≡ spec.down
  pub ec : setup.ec ≡ spec.ec
  pub intra : setup.intra ≡ spec.intra

-- The first half of a table has so many times the scale as runs have ended.
abbrev pub HasTable : SetupValue → ℕ → ℕ → ℕ → List ℕ → Type 0
HasTable setup set table scale runs = (k : ℕ) → k < 128 → set_entry setup set table k ≡ pos (scale * runs_ended 0 runs k)

-- From a table of a set on, the tables are these, the first at this scale.
abbrev pub HasTables : SetupValue → ℕ → ℕ → ℕ → List (List ℕ) → Type 0
HasTables setup set table scale [] = Unit {0}
HasTables setup set table scale (runs ∷ tables) =
    HasTable setup set table scale runs × HasTables setup set (table + 1) (scale_after scale runs) tables

pub record HasSet (setup : SetupValue) (set : ℕ) (tables : List (List ℕ)) : Type 0 where
  pub five : length tables ≡ 5
  pub entries : HasTables setup set 0 1 tables
  pub contexts : set_contexts setup set ≡ (scale_after_all 1 tables + 1) / 2

-- From a set on, the sets are these.
abbrev pub HasSets : SetupValue → ℕ → List (List (List ℕ)) → Type 0
HasSets setup set [] = Unit {0}
HasSets setup set (tables ∷ sets) = HasSet setup set tables × HasSets setup (set + 1) sets
