-- One FLAC frame: its header, subframes and footer (RFC 9639, section 9).
use Rattle.std.specs.Prelude.{ℕ, ◌+◌, ◌/◌, ◌%◌, ◌≡◌, ◌≢◌, ◌≤◌, ◌<◌, ◌⊎◌, ◌==◌, nat_lt, if◌then◌else◌, List, All, length, take, drop, slice_index, slice_range}
use Rattle.ffv1_bits.specs.Bits.{bits_of}
use Rattle.ffv1_bits.specs.Parity.{remainder_by, AreBytes}
use Rattle.flac_frame.specs.Crc.{crc8_divisor, crc16_divisor}

-- How many bytes the coded number has that begins with this byte, and 0 if none begins so (9.1.5): one below 80, else as many as the byte has
-- leading 1 bits, which are 2 to 7.
abbrev pub number_length : ℕ → ℕ
number_length first =
    if nat_lt first 0x80 then 1
    else if nat_lt first 0xC0 then 0
    else if nat_lt first 0xE0 then 2
    else if nat_lt first 0xF0 then 3
    else if nat_lt first 0xF8 then 4
    else if nat_lt first 0xFC then 5
    else if nat_lt first 0xFE then 6
    else if nat_lt first 0xFF then 7
    else 0

-- how many bytes the size of the block has that its code says to follow (9.1.6)
abbrev pub block_size_length : ℕ → ℕ
block_size_length code = if code == 6 then 1 else if code == 7 then 2 else 0

-- and the sample rate (9.1.7)
abbrev pub sample_rate_length : ℕ → ℕ
sample_rate_length code = if code == 12 then 1 else if code == 13 then 2 else if code == 14 then 2 else 0

-- how many bytes the header has before its CRC-8
abbrev pub header_length : List ℕ → ℕ
header_length frame =
    4 + number_length (slice_index frame 4) + block_size_length (slice_index frame 2 / 16) + sample_rate_length (slice_index frame 2 % 16)

-- What a header has before its CRC-8 (9.1). There is room for the header, its CRC-8 and the footer.
pub record HasHeader (frame : List ℕ) : Type 0 where
  pub room : header_length frame + 3 ≤ length frame
  pub sync : slice_index frame 0 ≡ 0xFF
  pub blocking : (slice_index frame 1 ≡ 0xF8) ⊎ (slice_index frame 1 ≡ 0xF9)
  pub block_size : slice_index frame 2 / 16 ≢ 0
  pub sample_rate : slice_index frame 2 % 16 ≢ 15
  pub channels : slice_index frame 3 / 16 ≤ 10
  pub bit_depth : slice_index frame 3 / 2 % 8 ≢ 3
  pub reserved : slice_index frame 3 % 2 ≡ 0
  pub number : 0 < number_length (slice_index frame 4)
  pub more_of_number : All (λ byte. byte / 64 ≡ 2) (slice_range frame 5 (4 + number_length (slice_index frame 4)))

-- A frame passes: its header is one, nothing is left of the header with its CRC-8, and nothing of all with the CRC-16.
pub record PassesFlac (frame : List ℕ) : Type 0 where
  pub header : HasHeader frame
  pub crc8 : remainder_by crc8_divisor (bits_of (take (header_length frame + 1) frame)) ≡ 0
  pub crc16 : remainder_by crc16_divisor (bits_of frame) ≡ 0

-- ---- laws

-- Two lists of bytes of one length whose bits differ only within 16 consecutive ones, from place `at` on.
pub record DifferWithin16 (a b : List ℕ) (at : ℕ) : Type 0 where
  pub same_length : length a ≡ length b
  pub front : take at (bits_of a) ≡ take at (bits_of b)
  pub back : drop (at + 16) (bits_of a) ≡ drop (at + 16) (bits_of b)

-- Frames that differ only within 16 consecutive bits and both pass are the same.
abbrev pub FlacBurstIsSeen : Type 0
FlacBurstIsSeen =
    (a b : List ℕ) (at : ℕ) → AreBytes a → AreBytes b → DifferWithin16 a b at → PassesFlac a → PassesFlac b → a ≡ b
