use Rattle.std.proofs.Common.{ap, ◌∙◌, ◌*◌, ◌^◌}
use Rattle.std.specs.Prelude.{bit_xor}
use Rattle.ffv1_bits.specs.Parity.{divided}
use Rattle.ffv1_bits.proofs.SixteenBytes.{sixteen_taken}
use Rattle.ffv1_bits.proofs.parity.with_sixteen.Goals as goal

pub returns : goal.returns
returns c =
    ap (bit_xor (bit_xor (bit_xor c.moved_four-first.result c.moved_four-second.result) (bit_xor c.moved_four-third.result c.from_be_bytes-4.result))) c.moved_four.ensures
    ∙ sixteen_taken c.args.register _ _ _ _ c.args.sixteen.now c.told-sixteen c.fits-sixteen
    (c.moved_four-first.ensures ∙ ap (λ n. divided 128 (n * 2 ^ 96)) c.from_be_bytes.ensures)
    (c.moved_four-second.ensures ∙ ap (λ n. divided 128 (n * 2 ^ 64)) c.from_be_bytes-2.ensures)
    (c.moved_four-third.ensures ∙ ap (λ n. divided 128 (n * 2 ^ 32)) c.from_be_bytes-3.ensures)
    c.from_be_bytes-4.ensures
