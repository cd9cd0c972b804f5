use Rattle.std.proofs.Common.{rules, ◌∙◌, ap, refl}
use Rattle.std.proofs.lemmas.List.{take_all}
use Rattle.ffv1_bits.specs.Bits.{bits_of}
use Rattle.ffv1_bits.specs.Parity.{polynomial_of, remainder_by}
use Rattle.flac_frame.specs.Crc.{crc8_divisor}
use Rattle.flac_frame.proofs.Checks.{left_turn}
use Rattle.flac_frame.proofs.crc.left_by_crc8.Goals as goal

pub loop-byte-init : goal.loop-byte-init
unfolding bits_of polynomial_of remainder_by
loop-byte-init c = refl

pub loop-byte-preserved : goal.loop-byte-preserved
loop-byte-preserved c =
    left_turn crc8_divisor c.args.bytes.now c.loop-byte.byte-index c.loop-byte.register c.with_byte_8-register.result c.loop-byte-test.true (search rules)
    c.loop-byte.invariant c.with_byte_8-register.ensures

pub returns : goal.returns
returns c =
    c.loop-byte.invariant
    ∙ ap (λ bytes. remainder_by crc8_divisor (bits_of bytes)) (take_all c.loop-byte.byte-index c.args.bytes.now c.loop-byte-test.false)
