-- The tables of a set, with all of their entries.
use Rattle.std.specs.Prelude.{◌≡◌, ℕ, ◌<◌, Bool, true, List, [], length, ℤ, pos, get_or}
use Rattle.ffv1_range.specs.Setup.{SetupValue, set_entry}
use Rattle.ffv1_range.specs.Tables.{HaveContexts}

-- a set of a setup
pub record SetTables : Type 0 where
  pub setup : SetupValue
  pub set : ℕ

-- The setup has the set, and these are the 256 entries of each of its tables. Where the set is near, those of the
-- tables 3 and 4 are all 0.
pub record AreSetTables (setup : SetupValue) (set : ℕ) (entries : List (List ℤ)) (is_near : Bool) : Type 0 where
  pub contexts : HaveContexts setup.sets
  pub there : set < length setup.sets
  pub are_entries : (table k : ℕ) → table < 5 → k < 256 → get_or (get_or entries table []) k (pos 0) ≡ set_entry setup set table k
  pub near : is_near ≡ true → (k : ℕ) → k < 256 → (set_entry setup set 3 k ≡ pos 0) × (set_entry setup set 4 k ≡ pos 0)
