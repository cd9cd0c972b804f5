use Rattle.std.proofs.Common.{arith, rules}
use Rattle.ffv1_bits.proofs.EightBytes.{eight_there}
use Rattle.ffv1_bits.proofs.reader.eight_bytes_at.Goals as goal

pub returns-clause-some : goal.returns-clause-some
returns-clause-some c =
    eight_there c.args.bytes.now c.in_ok-get.field-0.now c.in_ok-front.front.now c.args.place _ c.from_be_bytes.result (λ i. omega (arith, c.type_inv.bytes i)) (search rules)
    c.in_ok-get.ensures.lookup.0.2 c.in_ok-front.ensures.cases c.from_be_bytes.ensures
