use Rattle.std.proofs.Common.{ap, sym, ◌∙◌, ◌≡◌, ◌*◌, ◌-◌, length, drop, arith}
use Rattle.ffv1_bits.specs.Bits.{bits_of}
use Rattle.ffv1_bits.specs.Reader.{Reading}
use Rattle.ffv1_bits.proofs.Places.{bits_left}
use Rattle.ffv1_bits.proofs.EightBytes.{peek_some}
use Rattle.ffv1_bits.proofs.reader.Bits.peek.Goals as goal

pub returns-in_err-eight-clause-none : goal.returns-in_err-eight-clause-none
returns-in_err-eight-clause-none c =
    let left : length c.args.self.now.left ≡ 8 * length c.self.inside.bytes.now - c.self.inside.place =
    sym (ap (λ (r : Reading). length r.left) c.self.view_is) ∙ bits_left c.self.inside.bytes.now c.self.inside.place in
    rw c.from_residual.ensures (omega (arith, left, c.in_err-eight.ensures.none))

pub returns-clause-some : goal.returns-clause-some
returns-clause-some c =
    let left : c.args.self.now.left ≡ drop c.self.inside.place (bits_of c.self.inside.bytes.now) = sym (ap (λ (r : Reading). r.left) c.self.view_is) in
    rw left (peek_some c.self.inside.bytes.now c.self.inside.place c.in_ok-eight.eight c.in_ok-eight.ensures.some)
