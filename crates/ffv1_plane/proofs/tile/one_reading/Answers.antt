use Rattle.ffv1_plane.proofs.Pictures.{one_reading_is}
use Rattle.ffv1_plane.proofs.tile.one_reading.Goals as goal

pub returns : goal.returns
returns c = one_reading_is
