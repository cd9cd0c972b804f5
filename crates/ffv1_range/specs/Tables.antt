-- Quantization tables (RFC 9043, section 3.5): runs of entries, and what the five tables of a set are.
use Rattle.std.specs.Prelude.{◌≡◌, ℕ, ◌+◌, ◌-◌, ◌*◌, ◌/◌, ◌<◌, ◌≤◌, List, [], ◌∷◌, map, length, sum, ℤ, pos, neg_ℤ, nat_abs, nat_le, nat_lt, ◌==◌, slice_index, slice_index_or, if◌then◌else◌}
use Rattle.std.specs.List.{All, range_with_len}

-- A table is given by the lengths of its runs, none of them empty, which fill its first half.
pub record IsTable (runs : List ℕ) : Type 0 where
  pub not_empty : All (λ len. 1 ≤ len) runs
  pub whole : sum runs ≡ 128

-- the number of runs that end at or before entry k, where the first begins at entry `from`
abbrev pub runs_ended : ℕ → List ℕ → ℕ → ℕ
runs_ended from [] k = 0
runs_ended from (len ∷ runs) k = (if nat_le (from + len) k then 1 else 0) + runs_ended (from + len) runs k

-- the entries 0 to 127 of a table: how many runs have ended, times the scale
abbrev pub half_of : ℕ → List ℕ → List ℕ
half_of scale runs = map (λ k. scale * runs_ended 0 runs k) (range_with_len 0 128)

-- entry k of 256: the second half mirrors the first with the other sign, and entry 128 mirrors entry 127
abbrev pub table_entry : List ℕ → ℕ → ℤ
table_entry half k =
    if nat_lt k 128 then pos (slice_index half k)
    else neg_ℤ (pos (slice_index half (if k == 128 then 127 else 256 - k)))

-- what a set of tables comes to: the first halves of its tables, and the number of its contexts
pub record SetValue : Type 0 where
  pub halves : List (List ℕ)
  pub contexts : ℕ

-- a scale after a table of these runs
abbrev pub scale_after : ℕ → List ℕ → ℕ
scale_after scale runs = scale * (2 * length runs - 1)

-- a scale after some tables
abbrev pub scale_after_all : ℕ → List (List ℕ) → ℕ
scale_after_all scale [] = scale
scale_after_all scale (runs ∷ tables) = scale_after_all (scale_after scale runs) tables

-- the halves of tables, the first at this scale
abbrev pub halves_of : ℕ → List (List ℕ) → List (List ℕ)
halves_of scale [] = []
halves_of scale (runs ∷ tables) = half_of scale runs ∷ halves_of (scale_after scale runs) tables

abbrev pub set_of : List (List ℕ) → SetValue
set_of tables = record { halves = halves_of 1 tables; contexts = (scale_after_all 1 tables + 1) / 2 }

-- the scale stays within 65535
abbrev pub AreScalesSmall : ℕ → List (List ℕ) → Type 0
AreScalesSmall scale [] = Unit {0}
AreScalesSmall scale (runs ∷ tables) = (scale_after scale runs ≤ 65535) × AreScalesSmall (scale_after scale runs) tables

-- A set has five tables, and its scale stays within 65535.
pub record IsTableSet (set : List (List ℕ)) : Type 0 where
  pub five : length set ≡ 5
  pub tables : All IsTable set
  pub small : AreScalesSmall 1 set

-- A set has a context for each sum of one entry of each table, taken without its sign: the greatest entries come to less
-- than the number of contexts.
pub record HasContexts (set : SetValue) : Type 0 where
  pub greatest : ℕ → ℕ
  pub within : (table k : ℕ) → nat_abs (table_entry (slice_index_or set.halves table []) k) ≤ greatest table
  pub enough : greatest 0 + greatest 1 + greatest 2 + greatest 3 + greatest 4 < set.contexts
  pub few : set.contexts ≤ 32768

unfoldable pub HaveContexts : List SetValue → Type 0
HaveContexts sets = All HasContexts sets
