use Rattle.std.proofs.lemmas.Bool.{iff_false}
use Rattle.ebml.proofs.Elements.{not_known}
use Rattle.ebml.proofs.children.next_child.Goals as goal

pub returns-then-not-is_among-clause-none : goal.returns-then-not-is_among-clause-none
returns-then-not-is_among-clause-none c = λ n child.
    not_known c.args.ids.now c.args.bytes.now c.in-Some.element.head c.in-Some.element.length n (λ i. (c.type_inv.bytes i).fits) c.in-Some.ensures.found.1
    (λ known. iff_false c.is_among.ensures c.if-not-is_among.true known) child
