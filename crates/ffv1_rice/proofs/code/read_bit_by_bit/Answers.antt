use Rattle.std.proofs.Common.{arith}
use Rattle.ffv1_rice.proofs.Shapes.{cut_prefix, short_ok, escape_ok}
use Rattle.ffv1_rice.proofs.code.read_bit_by_bit.Goals as goal

pub returns-in-None-clause-err : goal.returns-in-None-clause-err
returns-in-None-clause-err c = let n = c.in-None.ensures.none in cut_prefix c.args.depth c.args.k n.0 c.args.bits.now.left n.1 n.2

pub returns-in-Some-clause-ok : goal.returns-in-Some-clause-ok
returns-in-Some-clause-ok c =
    short_ok c.args.depth c.args.k c.in-Some.zeros c.args.bits.now c.read_prefix.new.bits c.read_short.new.bits c.read_short.result c.if-zeros-lt-ESCAPE_ZEROS.true
    c.in-Some.ensures.some c.read_short.ensures.prefix c.read_short.ensures.suffix

pub returns-in-Some-2-clause-ok : goal.returns-in-Some-2-clause-ok
returns-in-Some-2-clause-ok c =
    escape_ok c.args.depth c.args.k c.in-Some.zeros c.args.bits.now c.read_prefix.new.bits c.read_escaped.new.bits c.read_escaped.result
    (omega (arith, c.in-Some.ensures.few, c.if-zeros-lt-ESCAPE_ZEROS.false)) c.in-Some.ensures.some c.read_escaped.ensures.prefix c.read_escaped.ensures.suffix
