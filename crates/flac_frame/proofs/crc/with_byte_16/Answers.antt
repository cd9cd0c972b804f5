use Rattle.std.proofs.Common.{rules, arith, ap, ◌∙◌, ◌≡◌, ◌+◌, ◌*◌, ◌/◌, ◌%◌, ◌^◌, get_or}
use Rattle.flac_frame.proofs.Checks.{byte_taken_16}
use Rattle.flac_frame.proofs.crc.with_byte_16.Goals as goal

pub returns : goal.returns
returns c =
    let top : c.from.result ≡ c.args.register / 2 ^ 8 % 256 = c.from.ensures ∙ ap (λ bytes. get_or bytes 0 0) c.to_be_bytes.ensures in
    let low : get_or c.to_be_bytes.result 1 0 ≡ c.args.register % 256 = ap (λ bytes. get_or bytes 1 0) c.to_be_bytes.ensures in
    let last : c.from_be_bytes.result ≡ c.args.register % 256 * 2 ^ 8 + c.args.byte = omega (arith, c.from_be_bytes.ensures, low) in
    byte_taken_16 c.args.register c.args.byte c.from.result c.from_be_bytes.result (search rules) (search rules) top last
