-- The CRC-32 of IEEE 802.3 (section 3.2.9), which EBML files use (RFC 8794, section 11.3.1). Its polynomial is that of the slices' parity.
use Rattle.std.specs.Prelude.{ℕ, Bool, false, not, List, ◌++◌, map, take, drop, reverse, replicate}
use Rattle.std.specs.List.{flat_map}
use Rattle.std.specs.Int.{w32, bit_not, reverse_bits}
use Rattle.ffv1_bits.specs.Bits.{number_bits}
use Rattle.ffv1_bits.specs.Parity.{remainder_of}

-- the bits of bytes in the order in which they are sent: of each byte that of worth 1 first
unfoldable pub sent_bits : List ℕ → List Bool
sent_bits bytes = flat_map (λ byte. reverse (number_bits 8 byte)) bytes

-- bits of which the first 32 are complemented
unfoldable pub complemented : List Bool → List Bool
complemented bits = map not (take 32 bits) ++ drop 32 bits

-- The remainder: 32 zeros follow the bits, which multiplies them by x ^ 32, the first 32 of all are complemented, and what they are as a
-- polynomial is divided.
unfoldable pub crc_remainder : List ℕ → ℕ
crc_remainder bytes = remainder_of (complemented (sent_bits bytes ++ replicate 32 false))

-- The CRC-32: the remainder with its bits complemented. They are sent from x ^ 31 on, so the bit of x ^ 31 is that of worth 1.
unfoldable pub crc32_of : List ℕ → ℕ
crc32_of bytes = reverse_bits w32 (bit_not w32 (crc_remainder bytes))
