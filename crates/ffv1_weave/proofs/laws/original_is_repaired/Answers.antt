use Rattle.ffv1_weave.proofs.RepairLaws.{original_is_repaired}
use Rattle.ffv1_weave.proofs.laws.original_is_repaired.Goals as goal

pub returns : goal.returns
returns c = original_is_repaired
