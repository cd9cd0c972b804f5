use Rattle.ffv1_holding.proofs.ContentsSteps.{with_facts-empty, with_copies-take_more, AreShort-take_more}
use Rattle.ffv1_holding.proofs.holding.Holding.take_all.Goals as goal

pub loop-taken-init : goal.loop-taken-init
loop-taken-init g c = record { held = with_facts-empty c.args.self.now; short = tt }

pub loop-taken-preserved : goal.loop-taken-preserved
loop-taken-preserved g c = record {
  held = with_copies-take_more (λ copy. copy.now) c.args.self.now c.loop-taken.self c.take.new.self c.args.copies.now c.loop-taken.taken _
      c.loop-taken-test.true c.loop-taken.invariant.held c.in_default.ensures.ok;
  short = AreShort-take_more (λ copy. copy.now) c.args.copies.now c.loop-taken.taken _ c.loop-taken-test.true c.loop-taken.invariant.short
      c.in_default.ensures.short;
}
