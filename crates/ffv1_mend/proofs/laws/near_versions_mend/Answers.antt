use Rattle.ffv1_mend.proofs.NearVersions.{near_versions_mend}
use Rattle.ffv1_mend.proofs.laws.near_versions_mend.Goals as goal

pub returns : goal.returns
returns c = near_versions_mend
