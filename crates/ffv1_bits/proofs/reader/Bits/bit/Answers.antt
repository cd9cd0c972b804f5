use Rattle.std.proofs.Common.{rules, ap, sym, ◌∙◌, ◌≡◌, ◌<◌, ◌≤◌, ◌+◌, ◌/◌, length, get_or}
use Rattle.ffv1_bits.specs.Reader.{Reading}
use Rattle.ffv1_bits.proofs.Places.{next_bit, no_bit}
use Rattle.ffv1_bits.proofs.reader.Bits.bit.Goals as goal

pub returns-in_err-byte-clause-none : goal.returns-in_err-byte-clause-none
returns-in_err-byte-clause-none c =
    let past : length c.self.inside.bytes.now ≤ c.self.inside.place / 8 = search rules in
    rw c.from_residual.ensures (ap (λ (r : Reading). r.left) (sym c.self.view_is) ∙ no_bit c.self.inside.bytes.now c.self.inside.place past)

pub returns-clause-some : goal.returns-clause-some
returns-clause-some c =
    let within : c.self.inside.place / 8 < length c.self.inside.bytes.now = search rules in
    let byte : get_or c.self.inside.bytes.now (c.self.inside.place / 8) 0 ≡ c.in_ok-byte.field-0.now = search rules in
    record {
      begins = ap (λ (r : Reading). r.left) (sym c.self.view_is) ∙ rw byte at (next_bit c.self.inside.bytes.now c.self.inside.place within);
      moves = ap (λ (r : Reading). r.place + 1) c.self.view_is;
    }
