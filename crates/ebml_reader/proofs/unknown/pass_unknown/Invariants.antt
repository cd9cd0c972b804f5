use Rattle.ebml_reader.proofs.Steps.{left_to_read}
use Rattle.ebml_reader.proofs.Searches.{Searched}
use Rattle.ebml_reader.proofs.unknown.pass_unknown.Given as goal

abbrev pub invariant-loop-intake : goal.invariant-loop-intake
invariant-loop-intake g l = Searched l.passed l.initial.intake l.intake (g.S.Source.log l.initial.source) (g.S.Source.log l.source)

abbrev pub decreases-loop-intake : goal.decreases-loop-intake
decreases-loop-intake g l = left_to_read l.intake
