-- The register of a CRC-32, as its code holds it.
use Rattle.std.specs.Prelude.{ℕ, ◌≡◌, false, List, ◌++◌, replicate}
use Rattle.std.specs.Int.{w32, reverse_bits}
use Rattle.ffv1_bits.specs.Parity.{remainder_of}
use Rattle.ebml.specs.Crc.{sent_bits, crc_remainder}

-- the remainder of bytes, the bit of x ^ 31 as that of worth 1
unfoldable pub register_of : List ℕ → ℕ
register_of bytes = reverse_bits w32 (crc_remainder bytes)

-- of whatever bytes this is the register, the next one is that of these and more bytes
abbrev pub Advances : ℕ → List ℕ → ℕ → Type 0
Advances register more next = (bytes : List ℕ) → register ≡ register_of bytes → next ≡ register_of (bytes ++ more)

-- the remainder of bytes that so many zero bits follow, the bit of x ^ 31 as that of worth 1
unfoldable pub left_before : List ℕ → ℕ → ℕ
left_before bytes zeros = reverse_bits w32 (remainder_of (sent_bits bytes ++ replicate zeros false))
