use Rattle.ffv1_mend.proofs.MendLaws.{same_versions_mend}
use Rattle.ffv1_mend.proofs.laws.same_versions_mend.Goals as goal

pub returns : goal.returns
returns c = same_versions_mend
