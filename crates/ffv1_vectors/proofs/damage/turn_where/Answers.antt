use Rattle.std.proofs.Common.{◌≡◌, ◌+◌, ◌*◌, ◌/◌, ◌%◌, ℕ, List, set, not, get_or, false, sym, ap, ◌∙◌, arith, subst}
use Rattle.ffv1_bits.specs.Bits.{bits_of}
use Rattle.ffv1_vectors.proofs.Bursts.{IsBurstUpTo, bit_kept, bit_inverted}
use Rattle.ffv1_vectors.proofs.damage.turn_where.Goals as goal
use Rattle.ffv1_vectors.proofs.damage.turn_where.Goals.{then-mask-place-eq1, else-mask-place-eq1}

pub loop-place-preserved : goal.loop-place-preserved
loop-place-preserved c =
    let given : List ℕ = c.args.bytes.now in
    let before : List ℕ = c.loop-place.bytes in
    let at : ℕ = c.args.bit in
    let count : ℕ = c.loop-place.place in
    elim c.if-mask-place-eq1.branch [
      | then-mask-place-eq1 w ↦
          let place : 8 * (at / 8 + (at % 8 + count) / 8) + (at % 8 + count) % 8 ≡ at + count = omega arith in
          let wrote : bits_of w.turn.new.bytes ≡ set (bits_of before) (at + count) (not (get_or (bits_of before) (at + count) false)) =
          w.turn.ensures ∙ ap (λ n. set (bits_of before) n (not (get_or (bits_of before) n false))) place in
          subst (IsBurstUpTo given at c.args.mask (count + 1)) (sym w.bytes-is)
          (bit_inverted given before w.turn.new.bytes at c.args.mask count w.if-mask-place-eq1.true (omega arith) c.loop-place.auto.bytes wrote
          c.loop-place.invariant)
      | else-mask-place-eq1 w ↦
          subst (IsBurstUpTo given at c.args.mask (count + 1)) (sym w.bytes-is)
          (bit_kept given before at c.args.mask count w.if-mask-place-eq1.false c.loop-place.invariant)
    ]

pub returns : goal.returns
returns c =
    let all : c.loop-place.place ≡ 32 = omega arith in
    let burst = subst (λ n. IsBurstUpTo c.args.bytes.now c.args.bit c.args.mask n c.loop-place.bytes) all c.loop-place.invariant in
    record {
      within = record { same_length = sym c.loop-place.auto.bytes; front = burst.front; back = burst.back };
      bits = burst.turned;
    }
