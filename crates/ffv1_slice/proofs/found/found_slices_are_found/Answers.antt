use Rattle.ffv1_slice.proofs.FoundLaws.{found_slices_are_found}
use Rattle.ffv1_slice.proofs.found.found_slices_are_found.Goals as goal

pub returns : goal.returns
returns c = found_slices_are_found
