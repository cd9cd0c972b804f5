use Rattle.std.proofs.Common.{◌++◌, ap, ◌∙◌}
use Rattle.std.specs.List.{flat_map}
use Rattle.std.proofs.lemmas.List.{take_all}
use Rattle.ffv1_check.specs.Inner.Vouched.{waits}
use Rattle.ffv1_check.proofs.WaitingSteps.{waits_more}
use Rattle.ffv1_check.proofs.waiting.Waiting.take.Goals as goal

pub loop-part-preserved : goal.loop-part-preserved
loop-part-preserved c = record {
  blocks = waits_more c.args.parts.now c.loop-part.part-index c.args.self.now.blocks.items c.loop-part.self.blocks.items c.push_waiting.new.blocks.items c.loop-part-test.true
      c.loop-part.invariant.blocks c.in_ok-push_waiting.ensures;
  checked = c.loop-part.invariant.checked;
}

pub returns-clause-blocks : goal.returns-clause-blocks
returns-clause-blocks c =
    c.loop-part.invariant.blocks ∙ ap (λ l. c.args.self.now.blocks.items ++ flat_map waits l) (take_all c.loop-part.part-index c.args.parts.now c.loop-part-test.false)

pub returns-clause-checked : goal.returns-clause-checked
returns-clause-checked c = c.loop-part.invariant.checked
