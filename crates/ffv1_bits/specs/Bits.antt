-- The bits of numbers and of bytes, in the order in which they are written: most significant first.
use Rattle.std.specs.Prelude.{ℕ, zero, suc, Bool, List, [], ◌∷◌, ◌==◌, if◌then◌else◌}
use Rattle.std.specs.Int.{bit_at}
use Rattle.std.specs.List.{flat_map}

-- the bit of worth 2 ^ k of a number
abbrev pub has_bit : ℕ → ℕ → Bool
has_bit n k = bit_at n k == 1

-- a bit as a number
abbrev pub bit_value : Bool → ℕ
bit_value bit = if bit then 1 else 0

-- a number in the given count of bits: the bit of worth 2 ^ (count - 1) first, that of worth 1 last
unfoldable pub number_bits : ℕ → ℕ → List Bool
number_bits zero n = []
number_bits (suc count) n = has_bit n count ∷ number_bits count n

-- the bits of a list of bytes, eight of each
unfoldable pub bits_of : List ℕ → List Bool
bits_of bytes = flat_map (number_bits 8) bytes
