use Rattle.std.proofs.Common.{arith}
use Rattle.std.proofs.lemmas.List.{ext_get_or}
use Rattle.ffv1_plane.proofs.tile.bytes_of.Goals as goal

pub returns : goal.returns
returns c =
    ext_get_or 0 c.loop-place.bytes.items c.args.samples.now c.loop-place.invariant.long
    (λ k less. c.loop-place.invariant.kept k (omega (arith, less, c.loop-place.invariant.long, c.loop-place-test.false)))
