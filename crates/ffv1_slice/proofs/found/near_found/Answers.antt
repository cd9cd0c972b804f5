use Rattle.ffv1_slice.proofs.NearLaws.{near_found}
use Rattle.ffv1_slice.proofs.found.near_found.Goals as goal

pub returns : goal.returns
returns c = near_found
