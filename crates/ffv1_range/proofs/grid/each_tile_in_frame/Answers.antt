use Rattle.ffv1_range.proofs.TileLaws.{each_tile}
use Rattle.ffv1_range.proofs.grid.each_tile_in_frame.Goals as goal

pub returns : goal.returns
returns c = each_tile
