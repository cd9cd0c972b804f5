use Rattle.std.proofs.Common.{arith}
use Rattle.ffv1_layout.proofs.tiles.are_free.Goals as goal

pub loop-tile-init : goal.loop-tile-init
loop-tile-init c k low high = absurd (omega arith)

pub returns : goal.returns
returns c tile is = c.loop-tile.invariant tile is.0 (omega (arith, is.1))
