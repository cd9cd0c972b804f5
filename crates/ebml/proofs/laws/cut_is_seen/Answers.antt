use Rattle.ebml.proofs.Whole.{cut_is_seen}
use Rattle.ebml.proofs.laws.cut_is_seen.Goals as goal

pub returns : goal.returns
returns c = cut_is_seen
