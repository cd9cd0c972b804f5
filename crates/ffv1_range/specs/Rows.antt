-- Range-coded values at several rows of states: one coder reads them all, and each row has states of its own.
use Rattle.std.specs.Prelude.{◌≡◌, ℕ, Bool, List, [], ◌∷◌, ◌==◌, if◌then◌else◌}
use Rattle.ffv1_range.specs.Coding.{Mode, PlaceOf, Place, IsRangeRun}

-- rows of states, by their numbers
abbrev pub Rows : Type 0
Rows = ℕ → List ℕ

-- rows with another one at a number
abbrev pub with_row : Rows → ℕ → List ℕ → Rows
with_row rows number row k = if k == number then row else rows k

-- bits at the slots of the row of a number
abbrev pub RowBits : Type 0
RowBits = ℕ × List (ℕ × Bool)

-- From p these bits are coded, those at one row of states after those at another, up to q.
unfoldable pub IsRowsRun : Mode → PlaceOf Rows → List RowBits → PlaceOf Rows → Type 0
IsRowsRun mode p [] q = p ≡ q
IsRowsRun mode p (row_bits ∷ rows_bits) q =
    (m : Place) × IsRangeRun mode (record { coder = p.coder; states = p.states row_bits.0 }) row_bits.1 m
    × IsRowsRun mode (record { coder = m.coder; states = with_row p.states row_bits.0 m.states }) rows_bits q
