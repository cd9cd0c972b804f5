-- The divisors of the two checks of a FLAC frame (RFC 9639, sections 9.1.8 and 9.3). Their divisions begin with nothing.
use Rattle.ffv1_bits.specs.Parity.{Divisor}

-- the CRC-8: x^8 + x^2 + x + 1
abbrev pub crc8_divisor : Divisor
crc8_divisor = record { degree = 8; number = 0x107 }

-- the CRC-16: x^16 + x^15 + x^2 + 1
abbrev pub crc16_divisor : Divisor
crc16_divisor = record { degree = 16; number = 0x18005 }
