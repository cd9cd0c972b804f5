use Rattle.std.proofs.Common.{arith, refl}
use Rattle.matroska.proofs.SizeSteps.{size_there}
use Rattle.matroska.proofs.sizes.xiph_size.Goals as goal

pub returns-then-byte-lt255 : goal.returns-then-byte-lt255
returns-then-byte-lt255 c =
    let there = size_there c.args.bytes.now c.loop-index.index _ _ (omega arith) refl c.loop-index.invariant.full c.if-byte-lt255.true (omega arith) in
    (there.0, there.1, there.2, c.if-size-bytes.false)
