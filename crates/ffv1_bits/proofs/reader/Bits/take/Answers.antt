use Rattle.std.proofs.Common.{refl, lit<, ◌+◌, ◌*◌}
use Rattle.ffv1_bits.proofs.Places.{none_read, fits_more, one_more, ended}
use Rattle.ffv1_bits.proofs.reader.Bits.take.Goals as goal

pub loop-init : goal.loop-init
loop-init c = record { fits = lit< tt; read = rw c.fork-ahead.ensures (none_read c.args.self.now) }

pub returns-in_err-bit-clause-none : goal.returns-in_err-bit-clause-none
returns-in_err-bit-clause-none c =
    rw c.from_residual.ensures (ended c.args.self.now c.loop.ahead c.loop.counter c.loop.number c.args.count c.loop.invariant.read c.in_err-bit.ensures.none
    c.loop-test.true)

pub loop-preserved : goal.loop-preserved
loop-preserved c = record {
  fits = fits_more c.loop.counter c.loop.number c.from.result c.in_ok-bit.field-0 c.loop.invariant.fits c.from.ensures;
  read = one_more c.args.self.now c.loop.ahead c.bit.new.self c.loop.counter c.loop.number
      (2 * c.loop.number + c.from.result) c.from.result c.in_ok-bit.field-0 c.loop.invariant.read c.in_ok-bit.ensures.some c.from.ensures refl;
}
