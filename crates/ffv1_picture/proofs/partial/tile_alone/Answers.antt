use Rattle.ffv1_picture.proofs.Alone as alone
use Rattle.ffv1_picture.proofs.partial.tile_alone.Goals as goal

pub returns : goal.returns
returns c = alone.tile_alone
