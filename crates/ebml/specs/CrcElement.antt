-- Elements whose first child is a CRC-32 element (RFC 8794, section 11.3.1): its ID BF, its size 4 as 84, and the CRC-32 of all that
-- follows it in its parent, the lowest byte first.
use Rattle.std.specs.Prelude.{ℕ, ◌+◌, ◌≡◌, ◌≤◌, List, [], ◌∷◌, ◌++◌, length, take, drop, bit_xor}
use Rattle.std.specs.Int.{w32, to_le_bytes}
use Rattle.ffv1_bits.specs.Parity.{AreBytes}
use Rattle.ebml.specs.Crc.{sent_bits, crc_remainder, crc32_of}

-- the content of an element begins with a CRC-32 element, be it right or not
abbrev pub HasCrc32 : List ℕ → Type 0
HasCrc32 content = (6 ≤ length content) × (take 2 content ≡ 0xBF ∷ 0x84 ∷ [])

-- the content of an element begins with a CRC-32 that is right
abbrev pub PassesCrc32 : List ℕ → Type 0
PassesCrc32 element = take 6 element ≡ 0xBF ∷ 0x84 ∷ to_le_bytes w32 (crc32_of (drop 6 element))

-- the bytes that the CRC-32 is of, and then its own: in this order they are divided
abbrev pub divided_bytes : List ℕ → List ℕ
divided_bytes element = drop 6 element ++ drop 2 (take 6 element)

-- What is left of an element beside what is left of a right one, which always is C704DD7B (IEEE 802.3, section 3.2.9).
unfoldable pub element_left : List ℕ → ℕ
element_left element = bit_xor (crc_remainder (divided_bytes element)) 0xC704DD7B

-- ---- laws

-- Two elements of one length whose bits, in the order in which they are divided, differ only within 32 consecutive ones, from place `at`
-- on.
pub record DivideWithin32 (a b : List ℕ) (at : ℕ) : Type 0 where
  pub same_length : length a ≡ length b
  pub front : take at (sent_bits (divided_bytes a)) ≡ take at (sent_bits (divided_bytes b))
  pub back : drop (at + 32) (sent_bits (divided_bytes a)) ≡ drop (at + 32) (sent_bits (divided_bytes b))

-- Elements that differ so and both pass are the same.
abbrev pub Crc32BurstIsSeen : Type 0
Crc32BurstIsSeen =
    (a b : List ℕ) (at : ℕ) → AreBytes a → AreBytes b → DivideWithin32 a b at → PassesCrc32 a → PassesCrc32 b → a ≡ b
