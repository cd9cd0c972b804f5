use Rattle.std.specs.Option.{option_copied}
use Rattle.ebml.proofs.ContentList.{last_more, last_found}
use Rattle.ebml.proofs.contents.last_content.Goals as goal

pub loop-content-preserved : goal.loop-content-preserved
loop-content-preserved c =
    last_more c.args.id c.args.bytes.now c.loop-content.left.now c.in-Some.content.rest.now c.in-Some.content.bytes.now (option_copied c.loop-content.last)
    c.in-Some.ensures.found c.loop-content.invariant

pub returns : goal.returns
returns c = last_found c.args.id c.args.bytes.now c.loop-content.left.now (option_copied c.loop-content.last) c.loop-content.invariant c.in_default.ensures.none
