use Rattle.std.proofs.Common.{arith}
use Rattle.ffv1_rice.proofs.Windows.{read_begins}
use Rattle.ffv1_rice.specs.Codes.{code_bits}
use Rattle.ffv1_rice.proofs.code.long_ahead.Goals as goal

pub returns-clause-ok : goal.returns-clause-ok
returns-clause-ok c =
    read_begins c.args.bits.now c.read_bit_by_bit.new.bits (code_bits c.args.depth c.in_ok-number.number c.args.k) _
    (omega (arith, c.place.ensures.value, c.place-2.ensures.value)) (rw c.fork-later.ensures at c.in_ok-number.ensures.ok)
