use Rattle.std.proofs.Common.{◌-◌, length}
use Rattle.ebml.proofs.Elements.{SoFar}
use Rattle.ebml.proofs.children.children_end.Given as goal

abbrev pub invariant-loop-child : goal.invariant-loop-child
invariant-loop-child l = SoFar l.ids l.content l.place

abbrev pub decreases-loop-child : goal.decreases-loop-child
decreases-loop-child l = length l.content - l.place
