use Rattle.std.proofs.Common.{◌≡◌, ◌%◌, ◌/◌, ◌^◌, get_or, ap, ◌∙◌}
use Rattle.std.specs.Prelude.{bit_xor}
use Rattle.ebml.proofs.Advances.{byte_advanced}
use Rattle.ebml.proofs.crc.advanced_by_byte.Goals as goal

pub returns : goal.returns
returns c =
    let value : c.from.result ≡ c.args.byte = c.from.ensures in
    let low : get_or c.to_le_bytes.result 0 0 ≡ bit_xor c.args.register c.args.byte % 256 =
    ap (λ bytes. get_or bytes 0 0) c.to_le_bytes.ensures ∙ ap (λ v. bit_xor c.args.register v % 256) value in
    byte_advanced c.args.register c.args.byte (get_or c.to_le_bytes.result 0 0) c.entry.result _ c.ranges.register.fits c.ranges.byte.fits low c.entry.ensures
    (ap (λ v. bit_xor c.entry.result (bit_xor c.args.register v / 2 ^ 8)) value)
