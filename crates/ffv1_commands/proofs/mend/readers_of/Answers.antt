use Rattle.std.proofs.Common.{ap, ◌∙◌}
use Rattle.std.proofs.lemmas.Iterator.Adapters.{YieldsList-from_vec}
use Rattle.std.proofs.lemmas.Iterator.Consumers.{YieldsList-end}
use Rattle.ffv1_stretches.specs.Copies.{unread}
use Rattle.ffv1_commands.proofs.MendCommandSteps.{reader_more, readers_all}
use Rattle.ffv1_commands.proofs.mend.readers_of.Goals as goal

pub loop-copy-preserved : goal.loop-copy-preserved
loop-copy-preserved g c =
    reader_more _ g.C.Read.remaining c.loop-copy.readers.items c.push.new.self.items c.loop-copy.yielded _ c.in-Some.copy c.in_ok-push.ensures.items
    c.loop-copy.invariant (c.new-in-loop-copy.ensures ∙ ap unread c.new.ensures.log)

pub returns : goal.returns
returns g c =
    let all = YieldsList-end (YieldsList-from_vec c.args.copies.items c.into_iter-copy-iterator.ensures.into_iter_gives.0
    (c.into_iter-copy-iterator.ensures.into_iter_gives.1 ∙ c.args.copies.ok.0)) c.loop-copy.yielded c.loop-copy.copy-iterator c.loop-copy.yielded_by
    c.next.result c.next.new.self c.in-None.is c.next.ensures.steps in
    readers_all _ g.C.Read.remaining c.loop-copy.readers.items c.loop-copy.yielded c.args.copies.items all.0 c.loop-copy.invariant
