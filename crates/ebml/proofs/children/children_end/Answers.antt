use Rattle.ebml.proofs.Elements.{one_more_after}
use Rattle.ebml.proofs.children.children_end.Goals as goal

pub loop-child-preserved : goal.loop-child-preserved
loop-child-preserved c =
    one_more_after c.args.ids.now c.args.content.now c.loop-child.place c.in-Some.child.length c.in-Some.child.head c.loop-child.invariant c.in-Some.ensures.within
    c.in-Some.ensures.found c.in-Some.ensures.known
