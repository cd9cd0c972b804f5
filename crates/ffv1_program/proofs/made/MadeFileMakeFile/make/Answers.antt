use Rattle.std.proofs.Common.{rules}
use Rattle.ffv1_program.proofs.Makes.{stays_unmade}
use Rattle.ffv1_program.proofs.made.MadeFileMakeFile.make.Goals as goal

pub returns-clause-failed : goal.returns-clause-failed
returns-clause-failed g c = search (rules, stays_unmade)
