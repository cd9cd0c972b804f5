use Rattle.ffv1_plane.proofs.OneRange.{one_range_reading}
use Rattle.ffv1_plane.proofs.planes.one_range_reading.Goals as goal

pub returns : goal.returns
returns c = one_range_reading
