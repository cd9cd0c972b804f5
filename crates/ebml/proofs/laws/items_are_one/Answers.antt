use Rattle.ebml.proofs.ItemList.{items_are_one}
use Rattle.ebml.proofs.laws.items_are_one.Goals as goal

pub returns : goal.returns
returns c = items_are_one
