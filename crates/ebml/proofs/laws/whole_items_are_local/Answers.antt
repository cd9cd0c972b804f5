use Rattle.ebml.proofs.ItemList.{whole_items_are_local}
use Rattle.ebml.proofs.laws.whole_items_are_local.Goals as goal

pub returns : goal.returns
returns c = whole_items_are_local
