-- Scalar symbols as bits at slots of a row of 32 states (RFC 9043, section 3.8.1.2).
use Rattle.std.specs.Prelude.{ℕ, zero, suc, ◌+◌, ◌-◌, Bool, true, false, List, [], ◌∷◌, ◌++◌, min, ℤ, pos, negsuc}
use Rattle.std.specs.Int.{w32, leading_zeros}
use Rattle.ffv1_bits.specs.Bits.{has_bit}

-- n ones that count the exponent, from the one of number e on
abbrev pub counting_ones : ℕ → ℕ → List (ℕ × Bool)
counting_ones zero e = []
counting_ones (suc n) e = (1 + min e 9, true) ∷ counting_ones n (e + 1)

-- the n low bits of a magnitude, the highest of them first
abbrev pub low_slots : ℕ → ℕ → List (ℕ × Bool)
low_slots zero a = []
low_slots (suc n) a = (22 + min n 9, has_bit a n) ∷ low_slots n a

-- a magnitude from 1 on, whose highest bit has the worth 2 ^ e
abbrev pub magnitude_slots : ℕ → ℕ → List (ℕ × Bool)
magnitude_slots e a = (0, false) ∷ (counting_ones e 0 ++ (1 + min e 9, false) ∷ low_slots e a)

-- the place of the highest 1 of a number below 2 ^ 32
abbrev pub exponent_of : ℕ → ℕ
exponent_of a = 31 - leading_zeros w32 a

-- an unsigned symbol
unfoldable pub symbol_bits : ℕ → List (ℕ × Bool)
symbol_bits zero = (0, true) ∷ []
symbol_bits (suc n) = magnitude_slots (exponent_of (suc n)) (suc n)

-- a signed symbol: that of its absolute value, and after it the sign where it is not 0
unfoldable pub signed_symbol_bits : ℤ → List (ℕ × Bool)
signed_symbol_bits (pos zero) = symbol_bits zero
signed_symbol_bits (pos (suc n)) = symbol_bits (suc n) ++ (11 + min (exponent_of (suc n)) 10, false) ∷ []
signed_symbol_bits (negsuc n) = symbol_bits (suc n) ++ (11 + min (exponent_of (suc n)) 10, true) ∷ []
