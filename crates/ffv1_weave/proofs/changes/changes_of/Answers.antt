use Rattle.ffv1_weave.proofs.Common.{common_steps, arith}
use Rattle.ffv1_weave.proofs.Choices.{choice_size}
use Rattle.ffv1_weave.proofs.Linear.{choice_there, changes_more}
use Rattle.ffv1_weave.proofs.References.{nowhere}
use Rattle.ffv1_weave.proofs.changes.changes_of.Goals as goal

pub change_of-change-requires-clause-fits : goal.change_of-change-requires-clause-fits
change_of-change-requires-clause-fits c = grind (arith, common_steps, choice_there, nowhere, choice_size)

pub loop-choice-preserved : goal.loop-choice-preserved
loop-choice-preserved c = grind (arith, common_steps, choice_there, nowhere, changes_more)
