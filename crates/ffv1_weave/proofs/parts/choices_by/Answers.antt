use Rattle.ffv1_weave.proofs.Common.{common_steps, arith, IfOk-weaker}
use Rattle.ffv1_weave.proofs.MostSteps.{choices_of_pairs, choices_of_regions}
use Rattle.ffv1_weave.proofs.parts.choices_by.Goals as goal

pub returns-in-Pairs : goal.returns-in-Pairs
returns-in-Pairs c = grind (arith, common_steps, IfOk-weaker, choices_of_pairs, choices_of_regions)
