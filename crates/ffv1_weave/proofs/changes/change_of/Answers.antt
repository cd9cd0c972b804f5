use Rattle.ffv1_weave.proofs.Common.{common_steps, arith, slice_eq-Decides, Decides-eqb}
use Rattle.ffv1_weave.proofs.Linear.{change_of_same}
use Rattle.ffv1_weave.proofs.changes.change_of.Goals as goal

pub returns-then-eq : goal.returns-then-eq
returns-then-eq c = grind (arith, common_steps, slice_eq-Decides, Decides-eqb, change_of_same)
