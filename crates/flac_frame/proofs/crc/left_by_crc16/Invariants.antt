use Rattle.std.proofs.Common.{◌≡◌, take}
use Rattle.ffv1_bits.specs.Bits.{bits_of}
use Rattle.ffv1_bits.specs.Parity.{remainder_by}
use Rattle.flac_frame.specs.Crc.{crc16_divisor}
use Rattle.flac_frame.proofs.crc.left_by_crc16.Given as goal

abbrev pub invariant-loop-byte : goal.invariant-loop-byte
invariant-loop-byte l = l.register ≡ remainder_by crc16_divisor (bits_of (take l.byte-index l.bytes))
