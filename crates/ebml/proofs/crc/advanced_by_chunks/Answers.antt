use Rattle.ebml.proofs.Advances.{Advances-none, chunk_advanced}
use Rattle.ebml.proofs.crc.advanced_by_chunks.Goals as goal

pub loop-chunk-init : goal.loop-chunk-init
loop-chunk-init c = Advances-none c.args.register

pub loop-chunk-preserved : goal.loop-chunk-preserved
loop-chunk-preserved c =
    chunk_advanced c.args.register c.args.chunks.now c.loop-chunk.chunk-index c.loop-chunk.register c.advanced_by_sixteen-register.result
    c.loop-chunk-test.true c.loop-chunk.invariant c.advanced_by_sixteen-register.ensures
