use Rattle.ffv1_slice.proofs.SliceLaws.{slice_found, slice_run}
use Rattle.ffv1_slice.proofs.slice.slice_read_is_slice.Goals as goal

pub returns : goal.returns
returns c setup slice first tile = (slice_found setup slice first tile, slice_run setup slice first tile)
