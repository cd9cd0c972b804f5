use Rattle.std.proofs.Common.{arith}
use Rattle.ebml.proofs.Numbers.{so_far}
use Rattle.ebml.proofs.vint.number_of.Goals as goal

pub overflow_mul-number : goal.overflow_mul-number
overflow_mul-number c =
    let small = so_far c.args.bytes.now c.loop-byte.byte-index c.loop-byte.number (λ i. (c.type_inv.bytes i).fits) c.loop-byte-test.true c.requires c.loop-byte.invariant in
    record { fits = omega (arith, small) }

pub overflow_add-number : goal.overflow_add-number
overflow_add-number c =
    let small = so_far c.args.bytes.now c.loop-byte.byte-index c.loop-byte.number (λ i. (c.type_inv.bytes i).fits) c.loop-byte-test.true c.requires c.loop-byte.invariant in
    let byte = (c.type_inv.bytes c.loop-byte.byte-index).fits in record { fits = omega (arith, small, byte, c.from.ensures) }
