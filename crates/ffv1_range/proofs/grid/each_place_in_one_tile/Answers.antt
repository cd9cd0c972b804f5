use Rattle.ffv1_range.proofs.TileLaws.{each_place}
use Rattle.ffv1_range.proofs.grid.each_place_in_one_tile.Goals as goal

pub returns : goal.returns
returns c = each_place
