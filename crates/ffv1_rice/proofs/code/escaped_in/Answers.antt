use Rattle.std.proofs.Common.{refl, arith}
use Rattle.ffv1_rice.proofs.Windows.{escape_begins, escape_small}
use Rattle.ffv1_rice.proofs.code.escaped_in.Goals as goal

pub returns-clause-some : goal.returns-clause-some
returns-clause-some c = escape_begins c.args.depth c.args.window c.args.k _ (omega (arith, c.requires.depth.most)) c.requires.window refl c.if-number-k-lt-ESCAPE_ZEROS.false

pub overflow_cast-number-2 : goal.overflow_cast-number-2
overflow_cast-number-2 c =
    let small = escape_small c.args.depth c.args.window (omega (arith, c.requires.depth.most)) c.requires.window in
    record { fits = omega (arith, small) }

pub overflow_add-number : goal.overflow_add-number
overflow_add-number c =
    let small = escape_small c.args.depth c.args.window (omega (arith, c.requires.depth.most)) c.requires.window in
    record { fits = omega (arith, small) }
