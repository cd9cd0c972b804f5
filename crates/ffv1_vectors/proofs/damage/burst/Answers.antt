use Rattle.std.proofs.Common.{◌≡◌, length, ap, sym, ◌∙◌, subst}
use Rattle.ffv1_bits.specs.Bits.{bits_of}
use Rattle.ffv1_bits.specs.Parity.{DifferWithin32}
use Rattle.ffv1_vectors.specs.Damage.{IsBurst}
use Rattle.ffv1_vectors.proofs.Lent.{put_back}
use Rattle.ffv1_vectors.proofs.damage.burst.Goals as goal

pub returns : goal.returns
returns c =
    let damaged = c.in_ok-damaged.damaged in
    let new = c.turn_where.new.bytes in
    let bit = c.args.bit in
    let kept : length new ≡ length damaged.items = c.turn_where.auto.bytes ∙ ap length c.deref_mut.ensures.value in
    let back = sym (put_back damaged.len new damaged.items damaged.ok.0 kept) in
    let was = c.deref_mut.ensures.value ∙ c.in_ok-damaged.ensures.items in
    record {
      within = subst (λ bytes. DifferWithin32 c.args.bytes.now bytes bit) back (subst (λ bytes. DifferWithin32 bytes new bit) was c.turn_where.ensures.within);
      bits = subst (λ bytes. IsBurst (bits_of c.args.bytes.now) bit c.args.mask (bits_of bytes)) back
          (subst (λ bytes. IsBurst (bits_of bytes) bit c.args.mask (bits_of new)) was c.turn_where.ensures.bits);
    }
