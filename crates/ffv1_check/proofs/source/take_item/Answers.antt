use Rattle.std.proofs.Common.{subst}
use Rattle.ebml.specs.declared.items.Kind.{Kind}
use Rattle.ebml_reader.specs.Starts.{IsStartOf}
use Rattle.ffv1_check.proofs.ClusterSteps.{segment_taken, endless_taken, unknown_taken}
use Rattle.ffv1_check.proofs.source.take_item.Goals as goal

pub returns-in_ok-take_parts-in-Segment : goal.returns-in_ok-take_parts-in-Segment
returns-in_ok-take_parts-in-Segment g c = λ bytes is long.
    segment_taken c.args.tracks.now c.args.place c.args.start.now.kind c.in-Segment.head bytes c.opening_of-opening.result c.args.reporter.now c.take_parts.new.reporter
    c.args.intake.now _ c.in-Segment.is c.opening_of-opening.ensures c.in_ok-take_parts-in-Segment.ensures

pub returns-in-Endless : goal.returns-in-Endless
returns-in-Endless g c = λ bytes is long.
    let begins = subst (λ (k : Kind). IsStartOf k bytes c.args.intake.now) c.in-Endless.is is in
    endless_taken c.args.tracks.now c.args.place c.args.start.now.kind c.in-Endless.head bytes c.take_cluster.result c.args.reporter.now c.take_cluster.new.reporter
    c.args.intake.now c.take_cluster.new.intake _ _ c.in-Endless.is begins.2 (c.take_cluster.ensures bytes begins.0.has begins.3)

pub returns-in_ok-take_parts-in-Unknown : goal.returns-in_ok-take_parts-in-Unknown
returns-in_ok-take_parts-in-Unknown g c = λ bytes is long.
    unknown_taken c.args.tracks.now c.args.place c.args.start.now.kind bytes c.args.start.now.length c.args.reporter.now c.take_parts-in-Unknown.new.reporter
    c.args.intake.now _ c.in-Unknown.is long c.in_ok-take_parts-in-Unknown.ensures
