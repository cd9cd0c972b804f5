use Rattle.ffv1_samples.proofs.TileSlices.{tile_is_slice}
use Rattle.ffv1_samples.proofs.slice.tile_is_slice.Goals as goal

pub returns : goal.returns
returns c = tile_is_slice
