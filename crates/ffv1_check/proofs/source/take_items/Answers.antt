use Rattle.std.proofs.Common.{arith}
use Rattle.std.proofs.lemmas.Result.{err_from_is_err_and}
use Rattle.ebml_reader.proofs.Given.{fault_given, all_given}
use Rattle.matroska_parts.proofs.PlacedSteps.{fault_within}
use Rattle.ffv1_check.proofs.SourceSteps.{check_none, check_room, check_less, check_on, start_placed}
use Rattle.ffv1_check.proofs.source.take_items.Goals as goal

pub loop-intake-init : goal.loop-intake-init
loop-intake-init g c = check_none _ c.args.tracks.now.first c.args.tracks.now.tracks c.new-intake.result c.args.reporter.now c.new-intake.ensures c.requires

pub returns-in_err-start : goal.returns-in_err-start
returns-in_err-start g c =
    let inv = c.loop-intake.invariant in
    let p = err_from_is_err_and c.from_residual.result c.from_residual.ensures.1 in
    rw (p.1, p.2) (fault_given c.in_err-start.field-0.0 (g.S.Source.log c.args.source.now) _ _ inv.items c.loop-intake.intake inv.stands c.in_err-start.ensures)

pub take_item-requires-clause-start : goal.take_item-requires-clause-start
take_item-requires-clause-start g c =
    let starts = rw c.in-Some.is at c.in_ok-start.ensures in
    (starts.bytes, starts.is, starts.long)

pub take_item-requires-clause-bounded : goal.take_item-requires-clause-bounded
take_item-requires-clause-bounded g c =
    let starts = rw c.in-Some.is at c.in_ok-start.ensures in
    starts.bounded

pub take_item-requires-clause-placed : goal.take_item-requires-clause-placed
take_item-requires-clause-placed g c =
    let starts = rw c.in-Some.is at c.in_ok-start.ensures in
    start_placed _ _ _ c.args.tracks.now.first c.args.tracks.now.tracks c.loop-intake.place c.in-Some.start c.loop-intake.intake c.pass_start.new.intake c.loop-intake.reporter
    c.loop-intake.invariant starts

pub take_item-requires-clause-stands : goal.take_item-requires-clause-stands
take_item-requires-clause-stands g c = (c.loop-intake.invariant.parts, c.loop-intake.invariant.reports)

pub returns-in_err-rest : goal.returns-in_err-rest
returns-in_err-rest g c =
    let inv = c.loop-intake.invariant in
    let starts = rw c.in-Some.is at c.in_ok-start.ensures in
    let p = err_from_is_err_and c.from_residual-in_err-rest.result c.from_residual-in_err-rest.ensures.1 in
    rw (p.1, p.2)
    (fault_within c.in_err-rest.field-0.0 (g.S.Source.log c.args.source.now) _ _ _ inv.items starts.bytes c.loop-intake.intake c.pass_start.new.intake inv.stands
    starts.passes (c.in_err-rest.ensures starts.bytes starts.is starts.long))

pub overflow_add-place : goal.overflow_add-place
overflow_add-place g c =
    let starts = rw c.in-Some.is at c.in_ok-start.ensures in
    let taken = c.in_ok-rest.ensures starts.bytes starts.is starts.long in
    let room = check_room _ _ _ _ c.args.tracks.now c.loop-intake.place c.in-Some.start c.loop-intake.intake c.pass_start.new.intake c.take_item.new.intake
    c.loop-intake.reporter c.take_item.new.reporter c.loop-intake.invariant starts taken.0 c.in_ok-rest.rest taken.1 taken.2 in
    omega (arith, room)

pub overflow_add-place-in-Some : goal.overflow_add-place-in-Some
overflow_add-place-in-Some g c =
    let starts = rw c.in-Some.is at c.in_ok-start.ensures in
    let taken = c.in_ok-rest.ensures starts.bytes starts.is starts.long in
    let room = check_room _ _ _ _ c.args.tracks.now c.loop-intake.place c.in-Some.start c.loop-intake.intake c.pass_start.new.intake c.take_item.new.intake
    c.loop-intake.reporter c.take_item.new.reporter c.loop-intake.invariant starts taken.0 c.in_ok-rest.rest taken.1 taken.2 in
    omega (arith, room)

pub loop-intake-smaller : goal.loop-intake-smaller
loop-intake-smaller g c =
    let starts = rw c.in-Some.is at c.in_ok-start.ensures in
    let taken = c.in_ok-rest.ensures starts.bytes starts.is starts.long in
    check_less _ _ _ _ c.args.tracks.now c.loop-intake.place c.in-Some.start c.loop-intake.intake c.pass_start.new.intake c.take_item.new.intake
    c.loop-intake.reporter c.take_item.new.reporter c.loop-intake.invariant starts taken.0 c.in_ok-rest.rest taken.1 taken.2

pub loop-intake-preserved : goal.loop-intake-preserved
loop-intake-preserved g c =
    let starts = rw c.in-Some.is at c.in_ok-start.ensures in
    let taken = c.in_ok-rest.ensures starts.bytes starts.is starts.long in
    check_on _ _ _ _ c.args.tracks.now c.loop-intake.place c.in-Some.start c.loop-intake.intake c.pass_start.new.intake c.take_item.new.intake
    c.loop-intake.reporter c.take_item.new.reporter c.loop-intake.invariant starts taken.0 c.in_ok-rest.rest taken.1 taken.2 taken.3

pub returns : goal.returns
returns g c =
    let inv = c.loop-intake.invariant in
    let ends = rw c.in_default.is at c.in_ok-start.ensures in
    record {
      items = inv.items;
      all = all_given _ _ _ inv.items c.loop-intake.intake c.pass_start.new.intake inv.stands ends.0 ends.1.0 ends.1.1;
      size_is = inv.at;
      parts = inv.parts;
      have = inv.have;
      reports = inv.reports;
    }
