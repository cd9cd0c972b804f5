use Rattle.ffv1_rice.proofs.Windows.{begins_later}
use Rattle.ffv1_bits.specs.Bits.{number_bits}
use Rattle.ffv1_rice.specs.Codes.{code_bits}
use Rattle.ffv1_rice.proofs.code.escape_ahead.Goals as goal

pub returns-clause-some : goal.returns-clause-some
returns-clause-some c =
    let later = c.in_ok-window.ensures.some in
    begins_later c.args.bits.now.left (number_bits 56 c.in_ok-window.window) later.0 (code_bits c.args.depth c.in_ok-number.number c.args.k) _ later.1
    c.in_ok-number.ensures.some
