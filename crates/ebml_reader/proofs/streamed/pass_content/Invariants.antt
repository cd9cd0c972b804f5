use Rattle.std.proofs.Common.{◌-◌}
use Rattle.ebml_reader.proofs.StreamSteps.{ContentSoFar}
use Rattle.ebml_reader.proofs.streamed.pass_content.Given as goal

abbrev pub invariant-loop-head : goal.invariant-loop-head
invariant-loop-head g l = ContentSoFar l.ids l.size l.children l.initial.crc l.crc l.initial.intake l.intake (g.S.Source.log l.initial.source) (g.S.Source.log l.source)

abbrev pub decreases-loop-head : goal.decreases-loop-head
decreases-loop-head g l = l.size - l.children
