use Rattle.std.proofs.Common.{◌∙◌, append-nil, ap, sym}
use Rattle.ffv1_bits.specs.Bits.{bits_of}
use Rattle.ffv1_bits.specs.Parity.{remainder_of}
use Rattle.ffv1_bits.proofs.SixteenBytes.{chunk_turn}
use Rattle.ffv1_bits.proofs.parity.chunks_remainder.Goals as goal

pub loop-chunk-init : goal.loop-chunk-init
loop-chunk-init c = λ front before. before ∙ ap (λ bytes. remainder_of (bits_of bytes)) (sym (append-nil front))

pub loop-chunk-preserved : goal.loop-chunk-preserved
loop-chunk-preserved c = λ front before.
    chunk_turn front c.args.chunks.now c.loop-chunk.chunk-index c.loop-chunk.register c.with_sixteen-register.result c.loop-chunk-test.true
    (c.told-chunks c.loop-chunk.chunk-index c.loop-chunk-test.true) (c.loop-chunk.invariant front before) c.with_sixteen-register.ensures
