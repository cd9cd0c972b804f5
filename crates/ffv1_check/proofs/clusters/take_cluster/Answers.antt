use Rattle.std.proofs.Common.{◌++◌, ◌+◌, [], ◌∷◌, length, ◌∙◌, arith}
use Rattle.std.proofs.lemmas.Result.{err_from_is_err_and}
use Rattle.ebml_reader.proofs.Steps.{fault-after, memory_after, passes-trans}
use Rattle.matroska_parts.specs.declared.parts.Part.TheVariants as part
use Rattle.matroska_parts.specs.declared.top_elements.TopElement.TheVariants as tops
use Rattle.matroska_parts.specs.Openings.{opening_of}
use Rattle.matroska_parts.proofs.PlacedSteps.{placed_after}
use Rattle.ffv1_check.proofs.ClusterSteps.{cluster_taken, after_passes, after_room}
use Rattle.ffv1_check.proofs.clusters.take_cluster.Goals as goal

pub take_children-requires-clause-stands : goal.take_children-requires-clause-stands
take_children-requires-clause-stands g c =
    let s = c.requires.stands in
    let begun = c.in_ok-begin_cluster.ensures (length c.args.tracks.now.tracks) s.0 s.1 in (
      s.0 ++ part.Begin (opening_of c.args.place tops.Cluster c.args.head.now) ∷ [],
      begun,
      record { below = tt; inner = tt; blocks = c.new-waiting.ensures.blocks; checked = c.new-waiting.ensures.checked ∙ c.checked.ensures ∙ begun.stands.checked },
    )

pub returns-in_err-rest : goal.returns-in_err-rest
returns-in_err-rest g c = λ start has long.
    let taken = c.in_ok-children.ensures.0 in
    let p = err_from_is_err_and c.from_residual-in_err-rest.result c.from_residual-in_err-rest.ensures.1 in
    rw (p.1, p.2) (fault-after c.in_err-rest.field-0.0 taken.content c.args.intake.now c.take_children.new.intake _ _ _ taken.passes c.in_err-rest.ensures)

pub end_cluster-requires-clause-room : goal.end_cluster-requires-clause-room
end_cluster-requires-clause-room g c =
    let taken = c.in_ok-children.ensures.0 in
    let rest = c.in_ok-rest.ensures in
    let placed = placed_after (c.args.place + c.args.head.now.length) taken.content c.args.intake.now c.take_children.new.intake _ _ taken.passes c.requires.placed in
    let room = after_room c.args.head.now.size c.in_ok-children.children rest.0 c.take_children.new.intake c.pass_after.new.intake _ _
    (c.args.place + c.args.head.now.length + length taken.content) rest.2 placed c.in_ok-children.ensures.1 in
    let long = taken.long in let counted = rest.1 in
    omega (arith, room, long, counted)

pub end_cluster-requires-clause-stands : goal.end_cluster-requires-clause-stands
end_cluster-requires-clause-stands g c =
    let s = c.requires.stands in
    let begun = c.in_ok-begin_cluster.ensures (length c.args.tracks.now.tracks) s.0 s.1 in
    let rep = c.in_ok-children.ensures.0.reports (s.0 ++ part.Begin (opening_of c.args.place tops.Cluster c.args.head.now) ∷ []) begun
    record { below = tt; inner = tt; blocks = c.new-waiting.ensures.blocks; checked = c.new-waiting.ensures.checked ∙ c.checked.ensures ∙ begun.stands.checked } in
    (s.0 ++ part.Begin (opening_of c.args.place tops.Cluster c.args.head.now) ∷ [], rep.0, rep.2, rep.3)

pub returns-in_err-end_cluster : goal.returns-in_err-end_cluster
returns-in_err-end_cluster g c = λ start has long.
    let taken = c.in_ok-children.ensures.0 in
    let rest = c.in_ok-rest.ensures in
    let p = err_from_is_err_and c.from_residual-in_err-end_cluster.result c.from_residual-in_err-end_cluster.ensures.1 in
    rw (p.1, p.2)
    (rw c.in_err-end_cluster.ensures
    (memory_after (taken.content ++ rest.0) c.args.intake.now c.pass_after.new.intake _ _
    (passes-trans taken.content rest.0 c.args.intake.now c.take_children.new.intake c.pass_after.new.intake _ _ _ taken.passes
    (after_passes c.args.head.now.size c.in_ok-children.children rest.0 c.take_children.new.intake c.pass_after.new.intake _ _ rest.2))))

pub overflow_add-result : goal.overflow_add-result
overflow_add-result g c =
    let taken = c.in_ok-children.ensures.0 in
    let rest = c.in_ok-rest.ensures in
    let placed = placed_after (c.args.place + c.args.head.now.length) taken.content c.args.intake.now c.take_children.new.intake _ _ taken.passes c.requires.placed in
    let room = after_room c.args.head.now.size c.in_ok-children.children rest.0 c.take_children.new.intake c.pass_after.new.intake _ _
    (c.args.place + c.args.head.now.length + length taken.content) rest.2 placed c.in_ok-children.ensures.1 in
    let long = taken.long in let counted = rest.1 in
    omega (arith, room, long, counted)

pub returns : goal.returns
returns g c = λ start has long.
    let taken = c.in_ok-children.ensures in
    let rest = c.in_ok-rest.ensures in
    cluster_taken c.args.tracks.now c.args.place c.args.head.now start c.requires.cluster long c.in_ok-children.children c.in_ok-rest.rest c.new-crc.result
    c.take_children.new.crc c.pass_after.new.crc c.args.reporter.now c.begin_cluster.new.reporter c.take_children.new.reporter c.end_cluster.new.reporter
    c.new-waiting.result c.take_children.new.waiting c.args.intake.now c.take_children.new.intake c.pass_after.new.intake _ _ _ c.in_ok-begin_cluster.ensures
    c.new-waiting.ensures.blocks (c.new-waiting.ensures.checked ∙ c.checked.ensures) taken.0 taken.1 taken.2 c.new-crc.ensures rest.0 rest.1 rest.2 rest.3
    c.in_ok-end_cluster.ensures
