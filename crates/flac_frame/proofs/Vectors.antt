-- Outside vectors, computed.
use Rattle.std.proofs.Common.{◌≡◌, ℕ, List, [], ◌∷◌, refl, inl, lit<, lit≤, arith}
use Rattle.std.specs.Prelude.{map}
use Rattle.ffv1_bits.specs.Bits.{number_bits, bits_of}
use Rattle.ffv1_bits.specs.Parity.{polynomial_of, remainder_by}
use Rattle.flac_frame.specs.Crc.{crc8_divisor, crc16_divisor}
use Rattle.flac_frame.specs.Frame.{PassesFlac, HasHeader, number_length}

-- The check values of the catalogues: of the digits 1 to 9, with zeros where the check itself stands.
crc8_of_digits : remainder_by crc8_divisor (bits_of (0x31 ∷ 0x32 ∷ 0x33 ∷ 0x34 ∷ 0x35 ∷ 0x36 ∷ 0x37 ∷ 0x38 ∷ 0x39 ∷ 0 ∷ [])) ≡ 0xF4
unfolding number_bits bits_of polynomial_of remainder_by
crc8_of_digits = refl

crc16_of_digits : remainder_by crc16_divisor (bits_of (0x31 ∷ 0x32 ∷ 0x33 ∷ 0x34 ∷ 0x35 ∷ 0x36 ∷ 0x37 ∷ 0x38 ∷ 0x39 ∷ 0 ∷ 0 ∷ [])) ≡ 0xFEE8
unfolding number_bits bits_of polynomial_of remainder_by
crc16_of_digits = refl

-- the first bytes of coded numbers at the ends of each length
lengths : map number_length (0x00 ∷ 0x7F ∷ 0x80 ∷ 0xBF ∷ 0xC0 ∷ 0xDF ∷ 0xE0 ∷ 0xF0 ∷ 0xF8 ∷ 0xFC ∷ 0xFD ∷ 0xFE ∷ 0xFF ∷ [])
    ≡ 1 ∷ 1 ∷ 0 ∷ 0 ∷ 2 ∷ 2 ∷ 3 ∷ 4 ∷ 5 ∷ 6 ∷ 6 ∷ 7 ∷ 0 ∷ []
lengths = refl

-- a frame that FFmpeg wrote: 64 samples of a tone, of one channel
abbrev tone : List ℕ
tone = 0xFF ∷ 0xF8 ∷ 0x6A ∷ 0x08 ∷ 0x0E ∷ 0x3F ∷ 0x4C ∷ 0x46 ∷ 0x0F ∷ 0x93 ∷ 0x0F ∷ 0xC2 ∷ 0x0F ∷ 0xE4 ∷ 0x0F ∷ 0xF8 ∷ 0xE6 ∷ 0x30 ∷ 0x58 ∷ 0x96 ∷ 0xC4 ∷ 0x5F ∷ 0x0F ∷ 0xE3 ∷ 0xC8 ∷ 0x06 ∷ 0x63 ∷ 0x8A ∷ 0x71 ∷ 0x0E ∷ 0x61 ∷ 0x08 ∷ 0x63 ∷ 0x30 ∷ 0x88 ∷ 0x52 ∷ 0x23 ∷ 0xAA ∷ 0x7A ∷ 0xE2 ∷ 0x6F ∷ 0x6F ∷ 0x75 ∷ 0x7E ∷ 0x94 ∷ 0xAD ∷ 0xAB ∷ 0x59 ∷ 0x69 ∷ 0x25 ∷ 0xA5 ∷ 0xE8 ∷ 0x9F ∷ 0x24 ∷ 0xD4 ∷ 0x96 ∷ 0xF6 ∷ 0x96 ∷ 0xB2 ∷ 0x5A ∷ 0x4A ∷ 0xDA ∷ 0xD5 ∷ 0x80 ∷ 0xCE ∷ 0x9B ∷ []

tone_has_header : HasHeader tone
tone_has_header = record {
  room = lit≤ tt;
  sync = refl;
  blocking = inl refl;
  block_size = λ e. absurd (omega arith);
  sample_rate = λ e. absurd (omega arith);
  channels = lit≤ tt;
  bit_depth = λ e. absurd (omega arith);
  reserved = refl;
  number = lit< tt;
  more_of_number = λ k d h. absurd (omega arith);
}

tone_passes : PassesFlac tone
unfolding number_bits bits_of polynomial_of remainder_by
tone_passes = record { header = tone_has_header; crc8 = refl; crc16 = refl }
