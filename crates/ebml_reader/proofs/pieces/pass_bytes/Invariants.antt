use Rattle.ebml_reader.proofs.PieceSteps.{PassedSoFar}
use Rattle.ebml_reader.proofs.pieces.pass_bytes.Given as goal

abbrev pub invariant-loop-piece : goal.invariant-loop-piece
invariant-loop-piece g l = PassedSoFar l.count l.left l.initial.intake l.intake (g.S.Source.log l.initial.source) (g.S.Source.log l.source)

abbrev pub decreases-loop-piece : goal.decreases-loop-piece
decreases-loop-piece g l = l.left
