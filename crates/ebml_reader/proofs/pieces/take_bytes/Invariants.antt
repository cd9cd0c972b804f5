use Rattle.ebml_reader.proofs.PieceSteps.{PassedThese}
use Rattle.ebml_reader.proofs.pieces.take_bytes.Given as goal

abbrev pub invariant-loop-taken : goal.invariant-loop-taken
invariant-loop-taken g l = PassedThese l.taken.items l.count l.left l.fn.intake l.intake (g.S.Source.log l.fn.source) (g.S.Source.log l.source)

abbrev pub decreases-loop-taken : goal.decreases-loop-taken
decreases-loop-taken g l = l.left
