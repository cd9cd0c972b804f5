use Rattle.std.proofs.Common.{◌≡◌, ◌+◌, ◌*◌, ◌/◌, ◌%◌, ℕ, false, not, length, get_or, set, ap, ◌∙◌, arith}
use Rattle.ffv1_bits.specs.Bits.{bits_of}
use Rattle.ffv1_vectors.proofs.Lent.{put_back}
use Rattle.ffv1_vectors.proofs.damage.flip.Goals as goal

pub returns : goal.returns
returns c =
    let flipped = c.in_ok-flipped.flipped in
    let new = c.turn.new.bytes in
    let bit : ℕ = c.args.bit in
    let place : ℕ = 8 * (bit / 8) + bit % 8 in
    let same : place ≡ bit = omega arith in
    let kept : length new ≡ length flipped.items = c.turn.auto.bytes ∙ ap length c.deref_mut.ensures.value in
    let back = put_back flipped.len new flipped.items flipped.ok.0 kept in
    let was = c.deref_mut.ensures.value ∙ c.in_ok-flipped.ensures.items in
    record {
      len = ap length back ∙ kept ∙ ap length c.in_ok-flipped.ensures.items;
      bits = ap bits_of back ∙ c.turn.ensures
          ∙ ap (λ bytes. set (bits_of bytes) place (not (get_or (bits_of bytes) place false))) was
          ∙ ap (λ n. set (bits_of c.args.bytes.now) n (not (get_or (bits_of c.args.bytes.now) n false))) same;
    }
