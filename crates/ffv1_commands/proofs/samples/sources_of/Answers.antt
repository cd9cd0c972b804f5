use Rattle.std.proofs.Common.{◌∙◌}
use Rattle.std.proofs.lemmas.Iterator.Adapters.{YieldsList-from_vec}
use Rattle.std.proofs.lemmas.Iterator.Consumers.{YieldsList-end}
use Rattle.ffv1_commands.proofs.SamplesSteps.{source_more, sources_all}
use Rattle.ffv1_commands.proofs.samples.sources_of.Goals as goal

pub loop-frame-preserved : goal.loop-frame-preserved
loop-frame-preserved g c =
    source_more _ g.F.Read.remaining c.loop-frame.sources.items c.push.new.self.items c.loop-frame.yielded _ c.in-Some.frame c.in_ok-push.ensures.items
    c.loop-frame.invariant c.new.ensures.log

pub returns : goal.returns
returns g c =
    let all = YieldsList-end (YieldsList-from_vec c.args.frames.items c.into_iter-frame-iterator.ensures.into_iter_gives.0
    (c.into_iter-frame-iterator.ensures.into_iter_gives.1 ∙ c.args.frames.ok.0)) c.loop-frame.yielded c.loop-frame.frame-iterator c.loop-frame.yielded_by
    c.next.result c.next.new.self c.in-None.is c.next.ensures.steps in
    sources_all _ g.F.Read.remaining c.loop-frame.sources.items c.loop-frame.yielded c.args.frames.items all.0 c.loop-frame.invariant
