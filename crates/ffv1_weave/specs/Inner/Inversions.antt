-- Byte strings that are tried for a repair.
use Rattle.std.specs.Prelude.{ℕ, zero, suc, ◌+◌, ◌*◌, List, [], ◌∷◌, length}
use Rattle.ffv1_bits.specs.Inner.Division.{reduced_at}
use Rattle.ffv1_weave.specs.Repairs.{inverted}

-- the bytes with one bit inverted, for each of so many bits from one on
abbrev pub inversions_from : List ℕ → ℕ → ℕ → List (List ℕ)
inversions_from bytes bit zero = []
inversions_from bytes bit (suc count) = inverted bytes bit ∷ inversions_from bytes (bit + 1) count

-- for each of their bits
abbrev pub inversions : List ℕ → List (List ℕ)
inversions bytes = inversions_from bytes 0 (8 * length bytes)

-- What is left of a polynomial times x ^ n, by what is left of it.
abbrev pub times_x : ℕ → ℕ → ℕ
times_x left zero = left
times_x left (suc n) = reduced_at 0 (times_x left n * 2)
