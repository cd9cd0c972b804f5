use Rattle.ebml.proofs.Whole.{one_segment_has_items}
use Rattle.ebml.proofs.laws.one_segment_has_items.Goals as goal

pub returns : goal.returns
returns c = one_segment_has_items
