use Rattle.std.proofs.Common.{[]}
use Rattle.ebml_reader.specs.Intake.{Passes}
use Rattle.ebml_reader.proofs.Steps.{left_to_read}
use Rattle.ebml_reader.proofs.intake.Intake.fill.Given as goal

abbrev pub invariant-loop-self : goal.invariant-loop-self
invariant-loop-self g l = Passes [] l.initial.self l.self (g.S.Source.log l.initial.source) (g.S.Source.log l.source)

abbrev pub decreases-loop-self : goal.decreases-loop-self
decreases-loop-self g l = left_to_read l.self
