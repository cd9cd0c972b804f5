use Rattle.std.proofs.Common.{sym, subst}
use Rattle.ebml.specs.declared.items.Kind.{Kind}
use Rattle.ebml_reader.specs.Inner.Settled.{BeginsItem}
use Rattle.ebml_reader.specs.Inner.Front.{PassesFront}
use Rattle.ebml_reader.proofs.Ends.{no_top}
use Rattle.ebml_reader.proofs.StartSteps.{head_room, segment_front, element_front, endless_front, unknown_front, seen_less}
use Rattle.ebml_reader.proofs.starts.pass_front.Goals as goal

pub pass_head-requires : goal.pass_head-requires
pass_head-requires g c =
    let begins = subst (λ (k : Kind). BeginsItem k c.args.intake.now.bytes) c.in-Segment.is c.requires.begins in
    head_room c.in-Segment.head begins.0 c.args.intake.now.bytes begins.1.0

pub returns-in-Segment : goal.returns-in-Segment
returns-in-Segment g c =
    segment_front c.in-Segment.head c.args.intake.now c.pass_head.new.intake _ c.pass_head.result c.requires.bounded c.pass_head.ensures.passed
    c.pass_head.ensures.long c.args.kind.now c.in-Segment.is c.requires.begins

pub pass_head-requires-in-Element : goal.pass_head-requires-in-Element
pass_head-requires-in-Element g c =
    let begins = subst (λ (k : Kind). BeginsItem k c.args.intake.now.bytes) c.in-Element.is c.requires.begins in
    head_room c.in-Element.head begins.0 c.args.intake.now.bytes begins.1.0

pub returns-in-Element : goal.returns-in-Element
returns-in-Element g c =
    element_front c.in-Element.head c.args.intake.now c.pass_head-in-Element.new.intake _ c.pass_head-in-Element.result c.requires.bounded c.pass_head-in-Element.ensures.passed
    c.pass_head-in-Element.ensures.long c.args.kind.now c.in-Element.is c.requires.begins

pub pass_head-requires-in-Endless : goal.pass_head-requires-in-Endless
pass_head-requires-in-Endless g c =
    let begins = subst (λ (k : Kind). BeginsItem k c.args.intake.now.bytes) c.in-Endless.is c.requires.begins in
    head_room c.in-Endless.head begins.0 c.args.intake.now.bytes begins.1.0

pub returns-in-Endless : goal.returns-in-Endless
returns-in-Endless g c =
    endless_front c.in-Endless.head c.args.intake.now c.pass_head-in-Endless.new.intake _ c.pass_head-in-Endless.result c.requires.bounded c.pass_head-in-Endless.ensures.passed
    c.pass_head-in-Endless.ensures.long c.args.kind.now c.in-Endless.is c.requires.begins

pub pass_unknown-requires-clause-seen : goal.pass_unknown-requires-clause-seen
pass_unknown-requires-clause-seen g c = seen_less c.args.intake.now c.requires.seen

pub pass_unknown-requires-clause-none : goal.pass_unknown-requires-clause-none
pass_unknown-requires-clause-none g c =
    no_top c.args.intake.now (subst (λ (k : Kind). BeginsItem k c.args.intake.now.bytes) c.in-Unknown.is c.requires.begins) c.requires.seen

pub returns-in-Unknown : goal.returns-in-Unknown
returns-in-Unknown g c =
    subst (λ (k : Kind). PassesFront k c.pass_unknown.result c.args.intake.now c.pass_unknown.new.intake (g.S.Source.log c.args.source.now) (g.S.Source.log c.pass_unknown.new.source))
    (sym c.in-Unknown.is) (unknown_front c.pass_unknown.result c.args.intake.now c.pass_unknown.new.intake _ _ c.pass_unknown.ensures)
