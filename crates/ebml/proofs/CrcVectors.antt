-- Outside vectors, computed.
use Rattle.std.proofs.Common.{◌≡◌, [], ◌∷◌, refl}
use Rattle.std.specs.Int.{reverse_bits_onto}
use Rattle.ffv1_bits.specs.Bits.{number_bits}
use Rattle.ffv1_bits.specs.Parity.{polynomial_of, divided, remainder_of}
use Rattle.ebml.specs.Crc.{sent_bits, complemented, crc_remainder, crc32_of}
use Rattle.ebml.specs.CrcElement.{PassesCrc32, element_left}

of_nothing : crc32_of [] ≡ 0
unfolding number_bits polynomial_of divided remainder_of reverse_bits_onto sent_bits complemented crc_remainder crc32_of
of_nothing = refl

-- the check value of the catalogues: of the digits 1 to 9
of_digits : crc32_of (0x31 ∷ 0x32 ∷ 0x33 ∷ 0x34 ∷ 0x35 ∷ 0x36 ∷ 0x37 ∷ 0x38 ∷ 0x39 ∷ []) ≡ 0xCBF43926
unfolding number_bits polynomial_of divided remainder_of reverse_bits_onto sent_bits complemented crc_remainder crc32_of
of_digits = refl

of_two : crc32_of (0x00 ∷ 0xFF ∷ []) ≡ 0x6CDBFD72
unfolding number_bits polynomial_of divided remainder_of reverse_bits_onto sent_bits complemented crc_remainder crc32_of
of_two = refl

-- elements of these contents: of the digits, of none, and of two bytes
element_of_digits : PassesCrc32 (0xBF ∷ 0x84 ∷ 0x26 ∷ 0x39 ∷ 0xF4 ∷ 0xCB ∷ 0x31 ∷ 0x32 ∷ 0x33 ∷ 0x34 ∷ 0x35 ∷ 0x36 ∷ 0x37 ∷ 0x38 ∷ 0x39 ∷ [])
unfolding number_bits polynomial_of divided remainder_of reverse_bits_onto sent_bits complemented crc_remainder crc32_of element_left
element_of_digits = refl

element_of_nothing : PassesCrc32 (0xBF ∷ 0x84 ∷ 0x00 ∷ 0x00 ∷ 0x00 ∷ 0x00 ∷ [])
unfolding number_bits polynomial_of divided remainder_of reverse_bits_onto sent_bits complemented crc_remainder crc32_of element_left
element_of_nothing = refl

element_of_two : PassesCrc32 (0xBF ∷ 0x84 ∷ 0x72 ∷ 0xFD ∷ 0xDB ∷ 0x6C ∷ 0x00 ∷ 0xFF ∷ [])
unfolding number_bits polynomial_of divided remainder_of reverse_bits_onto sent_bits complemented crc_remainder crc32_of element_left
element_of_two = refl

none_left : element_left (0xBF ∷ 0x84 ∷ 0x26 ∷ 0x39 ∷ 0xF4 ∷ 0xCB ∷ 0x31 ∷ 0x32 ∷ 0x33 ∷ 0x34 ∷ 0x35 ∷ 0x36 ∷ 0x37 ∷ 0x38 ∷ 0x39 ∷ []) ≡ 0
unfolding number_bits polynomial_of divided remainder_of reverse_bits_onto sent_bits complemented crc_remainder crc32_of element_left
none_left = refl

-- a right element with its last bit changed
wrong_left : element_left (0xBF ∷ 0x84 ∷ 0x72 ∷ 0xFD ∷ 0xDB ∷ 0x6C ∷ 0x00 ∷ 0xFE ∷ []) ≡ 0 → ⊥
unfolding number_bits polynomial_of divided remainder_of reverse_bits_onto sent_bits complemented crc_remainder crc32_of element_left
wrong_left e = absurd (cc e)
