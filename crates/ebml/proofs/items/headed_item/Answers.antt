use Rattle.ebml.proofs.ItemList.{endless_there}
use Rattle.ebml.proofs.items.headed_item.Goals as goal

pub returns-in-None-clause-is : goal.returns-in-None-clause-is
returns-in-None-clause-is c =
    endless_there c.args.bytes.now c.args.head c.children_end.result c.requires.top c.requires.has c.if-head-eq-SEGMENT.false c.in-None.is c.children_end.ensures.within
    c.children_end.ensures.are
