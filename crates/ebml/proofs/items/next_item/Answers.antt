use Rattle.ebml.proofs.ItemList.{only_item}
use Rattle.ebml.proofs.items.next_item.Goals as goal

pub returns-clause-only : goal.returns-clause-only
returns-clause-only c = only_item c.args.bytes.now c.item_of.result.kind c.item_of.result.length (λ i. (c.type_inv.bytes i).fits) c.item_of.ensures.is
