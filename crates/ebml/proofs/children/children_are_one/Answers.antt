use Rattle.ebml.proofs.Elements.{children_are_one}
use Rattle.ebml.proofs.children.children_are_one.Goals as goal

pub returns : goal.returns
returns c = children_are_one
