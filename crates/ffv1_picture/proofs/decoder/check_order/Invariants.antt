use Rattle.ffv1_picture.specs.FrameFaults.{AreInOrderBefore}
use Rattle.ffv1_picture.proofs.decoder.check_order.Given as goal

-- the links so far are in order
abbrev pub invariant-loop-place : goal.invariant-loop-place
invariant-loop-place l = AreInOrderBefore l.setup l.links l.place
