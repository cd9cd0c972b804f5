use Rattle.std.proofs.Common.{rules, ◌≡◌, ℕ, List, ◌/◌, ◌++◌, length, take, append-nil, append_assoc, ap, sym, ◌∙◌}
use Rattle.std.proofs.lemmas.List.{take_all}
use Rattle.std.specs.List.{concat}
use Rattle.std.specs.Simd.{first_chunks}
use Rattle.ffv1_bits.specs.Bits.{bits_of}
use Rattle.ffv1_bits.specs.Parity.{remainder_of}
use Rattle.ffv1_bits.proofs.Register.{remainder_turn}
use Rattle.ffv1_bits.proofs.SixteenBytes.{chunks_and_rest}
use Rattle.ffv1_bits.proofs.parity.remainder_after.Goals as goal

pub loop-byte-init : goal.loop-byte-init
loop-byte-init c = λ front before.
    c.chunks_remainder-register.ensures front before ∙ ap (λ chunks. remainder_of (bits_of (front ++ concat chunks))) c.as_chunks.ensures.front
    ∙ ap (λ bytes. remainder_of (bits_of bytes)) (sym (append-nil (front ++ concat (first_chunks 16 (length c.args.bytes.now / 16) c.args.bytes.now))))

pub loop-byte-preserved : goal.loop-byte-preserved
loop-byte-preserved c = λ front before.
    remainder_turn (front ++ concat (first_chunks 16 (length c.args.bytes.now / 16) c.args.bytes.now)) c.as_chunks.result.1.now c.loop-byte.byte-index
    c.loop-byte.register c.with_byte-register.result c.loop-byte-test.true (search rules) (c.loop-byte.invariant front before) c.with_byte-register.ensures

pub returns : goal.returns
returns c = λ front before.
    let rest : List ℕ = c.as_chunks.result.1.now in
    let chunks : List ℕ = concat (first_chunks 16 (length c.args.bytes.now / 16) c.args.bytes.now) in
    let all : take c.loop-byte.byte-index rest ≡ rest = take_all c.loop-byte.byte-index rest c.loop-byte-test.false in
    c.loop-byte.invariant front before
    ∙ ap (λ bytes. remainder_of (bits_of bytes))
    (ap (λ back. (front ++ chunks) ++ back) (all ∙ c.as_chunks.ensures.back) ∙ append_assoc front chunks _
    ∙ ap (λ bytes. front ++ bytes) (chunks_and_rest c.args.bytes.now))
