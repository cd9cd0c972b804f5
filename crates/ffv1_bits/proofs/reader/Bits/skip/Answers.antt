use Rattle.std.proofs.Common.{rules, ap, sym, ◌∙◌, ◌≡◌, ◌*◌, ◌-◌, length, drop, arith}
use Rattle.ffv1_bits.specs.Bits.{bits_of}
use Rattle.ffv1_bits.specs.Reader.{Reading}
use Rattle.ffv1_bits.proofs.Places.{bits_left, skipped}
use Rattle.ffv1_bits.proofs.reader.Bits.skip.Goals as goal

pub overflow_add-self : goal.overflow_add-self
overflow_add-self c =
    let left : length c.args.self.now.left ≡ 8 * length c.self.inside.bytes.now - c.self.inside.place =
    sym (ap (λ (r : Reading). length r.left) c.self.view_is) ∙ bits_left c.self.inside.bytes.now c.self.inside.place in
    search rules

pub invariant_of-self : goal.invariant_of-self
invariant_of-self c =
    let left : length c.args.self.now.left ≡ 8 * length c.self.inside.bytes.now - c.self.inside.place =
    sym (ap (λ (r : Reading). length r.left) c.self.view_is) ∙ bits_left c.self.inside.bytes.now c.self.inside.place in
    record { short = c.self.invariant.short; within = omega (arith, left, c.self.invariant.within, c.requires) }

pub returns : goal.returns
returns c =
    let left : c.args.self.now.left ≡ drop c.self.inside.place (bits_of c.self.inside.bytes.now) = sym (ap (λ (r : Reading). r.left) c.self.view_is) in
    let place : c.args.self.now.place ≡ c.self.inside.place = sym (ap (λ (r : Reading). r.place) c.self.view_is) in
    skipped c.args.self.now (bits_of c.self.inside.bytes.now) c.args.count c.self.inside.place left place c.requires
