use Rattle.matroska.proofs.BlockSteps.{block_is_one}
use Rattle.matroska.proofs.block.block_is_one.Goals as goal

pub returns : goal.returns
returns c = block_is_one
