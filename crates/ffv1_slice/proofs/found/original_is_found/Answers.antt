use Rattle.ffv1_slice.proofs.FoundLaws.{original_is_found}
use Rattle.ffv1_slice.proofs.found.original_is_found.Goals as goal

pub returns : goal.returns
returns c = original_is_found
