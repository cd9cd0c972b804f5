use Rattle.ebml.proofs.ItemList.{one_passed, all_passed}
use Rattle.ebml.proofs.items.count_items.Goals as goal

pub loop-place-preserved : goal.loop-place-preserved
loop-place-preserved c =
    one_passed c.args.file.now c.loop-place.place c.loop-place.count c.next_item-item.result.length c.next_item-item.result.kind c.loop-place.invariant
    c.next_item-item.ensures.some c.next_item-item.ensures.within c.next_item-item.ensures.is

pub returns : goal.returns
returns c = all_passed c.args.file.now c.loop-place.place c.loop-place.count c.loop-place.invariant c.loop-place-test.false
