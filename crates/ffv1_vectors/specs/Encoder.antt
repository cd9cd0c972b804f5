-- A range encoder (RFC 9043, section 3.8.1), between two bits.
use Rattle.std.specs.Prelude.{ℕ, List, []}

-- an encoder: its low end, its range, and the bytes that it has written
pub record EncoderValue : Type 0 where
  pub low : ℕ
  pub range : ℕ
  pub bytes : List ℕ

-- the encoder before its first bit
abbrev pub encoder_start : EncoderValue
encoder_start = record { low = 0; range = 65280; bytes = [] }
