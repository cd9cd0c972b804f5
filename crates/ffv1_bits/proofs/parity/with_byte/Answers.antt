use Rattle.std.proofs.Common.{rules, ap, get_or}
use Rattle.ffv1_bits.proofs.Remainders.{table_turn}
use Rattle.ffv1_bits.proofs.parity.with_byte.Goals as goal

pub returns : goal.returns
returns c =
    table_turn c.args.register c.args.byte (get_or c.to_be_bytes.result 0 0) c.byte_remainder.result c.from.result (search rules) (search rules)
    (ap (λ bytes. get_or bytes 0 0) c.to_be_bytes.ensures) c.byte_remainder.ensures c.from.ensures
