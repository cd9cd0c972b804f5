use Rattle.std.proofs.Common.{◌≡◌, take}
use Rattle.ffv1_bits.specs.Bits.{bits_of}
use Rattle.ffv1_bits.specs.Parity.{remainder_by}
use Rattle.flac_frame.specs.Crc.{crc8_divisor}
use Rattle.flac_frame.proofs.crc.left_by_crc8.Given as goal

abbrev pub invariant-loop-byte : goal.invariant-loop-byte
invariant-loop-byte l = l.register ≡ remainder_by crc8_divisor (bits_of (take l.byte-index l.bytes))
