use Rattle.std.proofs.Common.{map}
use Rattle.matroska.proofs.LaceSteps.{CutSoFar}
use Rattle.matroska.proofs.laces.cut.Given as goal

abbrev pub invariant-loop-size : goal.invariant-loop-size
invariant-loop-size l = CutSoFar l.sizes l.bytes l.size-index (map (λ frame. frame.now) l.frames.items) l.rest
