use Rattle.ffv1_weave.proofs.WeaveLaws.{same_versions_weave}
use Rattle.ffv1_weave.proofs.laws.same_versions_weave.Goals as goal

pub returns : goal.returns
returns c = same_versions_weave
