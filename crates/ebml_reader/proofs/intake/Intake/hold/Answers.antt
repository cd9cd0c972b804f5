use Rattle.ebml_reader.proofs.intake.Intake.hold.Goals as goal

pub returns-clause-are : goal.returns-clause-are
returns-clause-are c = λ i. (c.type_inv.piece i).fits
