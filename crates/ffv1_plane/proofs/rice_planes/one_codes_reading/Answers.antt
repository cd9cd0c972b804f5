use Rattle.ffv1_plane.proofs.OneRice.{one_codes_reading}
use Rattle.ffv1_plane.proofs.rice_planes.one_codes_reading.Goals as goal

pub returns : goal.returns
returns c = one_codes_reading
