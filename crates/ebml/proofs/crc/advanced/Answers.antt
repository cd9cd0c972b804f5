use Rattle.std.proofs.Common.{◌≡◌, ℕ, List, ◌/◌, ◌++◌, length, take, append-nil, ap, sym, subst, ◌∙◌}
use Rattle.std.proofs.lemmas.List.{take_all}
use Rattle.std.specs.List.{concat}
use Rattle.std.specs.Simd.{first_chunks}
use Rattle.ffv1_bits.proofs.SixteenBytes.{chunks_and_rest}
use Rattle.ebml.specs.Inner.Register.{Advances}
use Rattle.ebml.proofs.Advances.{rest_advanced}
use Rattle.ebml.proofs.crc.advanced.Goals as goal

pub loop-byte-init : goal.loop-byte-init
loop-byte-init c =
    let same = ap concat c.as_chunks.ensures.front ∙ sym (append-nil (concat (first_chunks 16 (length c.args.bytes.now / 16) c.args.bytes.now))) in
    subst (λ (bytes : List ℕ). Advances c.args.register bytes c.advanced_by_chunks-register.result) same c.advanced_by_chunks-register.ensures

pub loop-byte-preserved : goal.loop-byte-preserved
loop-byte-preserved c =
    rest_advanced c.args.register (concat (first_chunks 16 (length c.args.bytes.now / 16) c.args.bytes.now)) c.as_chunks.result.1.now c.loop-byte.byte-index
    c.loop-byte.register c.advanced_by_byte-register.result c.loop-byte-test.true c.loop-byte.invariant c.advanced_by_byte-register.ensures

pub returns : goal.returns
returns c =
    let rest : List ℕ = c.as_chunks.result.1.now in
    let front : List ℕ = concat (first_chunks 16 (length c.args.bytes.now / 16) c.args.bytes.now) in
    let all : take c.loop-byte.byte-index rest ≡ rest = take_all c.loop-byte.byte-index rest c.loop-byte-test.false in
    let whole = ap (λ back. front ++ back) (all ∙ c.as_chunks.ensures.back) ∙ chunks_and_rest c.args.bytes.now in
    subst (λ (bytes : List ℕ). Advances c.args.register bytes c.loop-byte.register) whole c.loop-byte.invariant
