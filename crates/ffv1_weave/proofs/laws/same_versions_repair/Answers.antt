use Rattle.ffv1_weave.proofs.RepairLaws.{same_versions_repair}
use Rattle.ffv1_weave.proofs.laws.same_versions_repair.Goals as goal

pub returns : goal.returns
returns c = same_versions_repair
