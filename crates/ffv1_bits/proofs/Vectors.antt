-- Outside vectors, computed.
use Rattle.std.proofs.Common.{◌≡◌, true, false, [], ◌∷◌, ◌++◌, refl}
use Rattle.std.specs.Prelude.{map}
use Rattle.ffv1_bits.specs.Bits.{number_bits, bits_of}
use Rattle.ffv1_bits.specs.Reader.{ReadsBits}
use Rattle.ffv1_bits.specs.Parity.{polynomial_of, divided, remainder_of}

one : remainder_of (bits_of (0x01 ∷ [])) ≡ 1
unfolding number_bits bits_of polynomial_of divided remainder_of
one = refl

-- a byte before four of 0
shifted : map (λ byte. remainder_of (bits_of (byte ∷ 0 ∷ 0 ∷ 0 ∷ 0 ∷ []))) (0x01 ∷ 0x02 ∷ 0xFF ∷ 0xFD ∷ [])
    ≡ 0x04C11DB7 ∷ 0x09823B6E ∷ 0xB1F740B4 ∷ 0xB8757BDA ∷ []
unfolding number_bits bits_of polynomial_of divided remainder_of
shifted = refl

slice : remainder_of (bits_of (0xFD ∷ 0xF6 ∷ 0x80 ∷ 0 ∷ 0 ∷ 3 ∷ 0 ∷ 0x1C ∷ 0x3E ∷ 0xA0 ∷ 0x9B ∷ [])) ≡ 0
unfolding number_bits bits_of polynomial_of divided remainder_of
slice = refl

other_slice : remainder_of (bits_of (0x3F ∷ 0x2B ∷ 0x80 ∷ 0 ∷ 0 ∷ 3 ∷ 0 ∷ 0x56 ∷ 0x0F ∷ 0xD7 ∷ 0x3B ∷ [])) ≡ 0
unfolding number_bits bits_of polynomial_of divided remainder_of
other_slice = refl

number_in_bits : number_bits 5 0x16 ≡ true ∷ false ∷ true ∷ true ∷ false ∷ []
unfolding number_bits
number_in_bits = refl

two_bytes : bits_of (0xB6 ∷ 0x0F ∷ []) ≡ number_bits 4 0xB ++ number_bits 12 0x60F
unfolding number_bits bits_of
two_bytes = refl

read_three : ReadsBits (record { place = 8; left = bits_of (0xB6 ∷ []) }) (number_bits 3 5) (record { place = 11; left = number_bits 5 0x16 })
unfolding number_bits bits_of
read_three = record { begins = refl; moves = refl }
