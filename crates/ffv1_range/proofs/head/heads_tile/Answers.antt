use Rattle.ffv1_range.proofs.HeadTiles.{heads_tile}
use Rattle.ffv1_range.proofs.head.heads_tile.Goals as goal

pub returns : goal.returns
returns c = heads_tile
