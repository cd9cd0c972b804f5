use Rattle.std.proofs.Common.{◌<◌, arith}
use Rattle.std.proofs.lemmas.Fmt.{hex_byte}
use Rattle.ffv1_holding.proofs.reporting.push_hex.Goals as goal

pub returns : goal.returns
returns c =
    let small : c.args.byte < 256 = omega arith in
    let written = rw (c.laid_out.ensures, c.in_radix.ensures) at c.write.ensures.bytes in
    rw (hex_byte _ c.args.byte small) at written
