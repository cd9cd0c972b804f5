use Rattle.std.proofs.Common.{[], refl, arith}
use Rattle.std.proofs.lemmas.Result.{err_from_is_err_and}
use Rattle.ebml_reader.proofs.Given.{fault_given, all_given}
use Rattle.matroska_parts.proofs.ReadSteps.{no_tracks_there}
use Rattle.matroska_parts.proofs.PlacedSteps.{fault_within, search_room, search_less, search_on, search_found, no_size, tracks_ends}
use Rattle.matroska_parts.proofs.tracks_search.find_tracks.Goals as goal

pub returns-in_err-start : goal.returns-in_err-start
returns-in_err-start g c =
    let inv = c.loop-intake.invariant in
    let p = err_from_is_err_and c.from_residual.result c.from_residual.ensures.1 in
    rw (p.1, p.2) (fault_given c.in_err-start.field-0.0 (g.S.Source.log c.args.source.now) _ _ inv.items c.loop-intake.intake inv.stands c.in_err-start.ensures)

pub returns-in_err-content : goal.returns-in_err-content
returns-in_err-content g c =
    let inv = c.loop-intake.invariant in
    let starts = rw c.in-Some.is at c.in_ok-start.ensures in
    let p = err_from_is_err_and c.from_residual-in_err-content.result c.from_residual-in_err-content.ensures.1 in
    rw (p.1, p.2)
    (fault_within c.in_err-content.field-0.0 (g.S.Source.log c.args.source.now) _ _ _ inv.items starts.bytes c.loop-intake.intake c.pass_start.new.intake inv.stands starts.passes
    c.in_err-content.ensures)

pub returns-in_err-rest : goal.returns-in_err-rest
returns-in_err-rest g c =
    let inv = c.loop-intake.invariant in
    let starts = rw c.in-Some.is at c.in_ok-start.ensures in
    let p = err_from_is_err_and c.from_residual-in_err-rest.result c.from_residual-in_err-rest.ensures.1 in
    rw (p.1, p.2)
    (fault_within c.in_err-rest.field-0.0 (g.S.Source.log c.args.source.now) _ _ _ inv.items starts.bytes c.loop-intake.intake c.pass_start.new.intake inv.stands starts.passes
    c.in_err-rest.ensures)

pub returns : goal.returns
returns g c =
    let inv = c.loop-intake.invariant in
    let ends = rw c.in_default.is at c.in_ok-start.ensures in
    no_tracks_there _ c.loop-intake.place record { given = []; held = c.loop-intake.intake } _ _ inv _ refl
    (all_given _ _ _ inv.items c.loop-intake.intake c.pass_start.new.intake inv.stands ends.0 ends.1.0 ends.1.1)

pub returns-in-Some-tracks_size : goal.returns-in-Some-tracks_size
returns-in-Some-tracks_size g c =
    let inv = c.loop-intake.invariant in
    let starts = rw c.in-Some.is at c.in_ok-start.ensures in
    let found = c.in-Some-tracks_size.ensures.found in
    let content = c.in_ok-content.content.items in
    search_found _ _ _ _ c.loop-intake.place c.in-Some.start c.loop-intake.intake c.pass_start.new.intake c.take_bytes.new.intake inv starts content
    (tracks_ends c.in-Some.start.kind found.0 c.in-Some-tracks_size.size content c.pass_start.new.intake c.take_bytes.new.intake _ _ found.1 found.2 c.in_ok-content.ensures)
    found.0 found.1 found.3 _ refl refl

pub overflow_add-place : goal.overflow_add-place
overflow_add-place g c =
    let starts = rw c.in-Some.is at c.in_ok-start.ensures in
    let rest = c.in_ok-rest.ensures in
    let room = search_room _ _ _ _ c.loop-intake.place c.in-Some.start c.loop-intake.intake c.pass_start.new.intake c.pass_rest.new.intake c.loop-intake.invariant starts
    rest.0 rest.2 c.in_ok-rest.rest rest.1 in
    omega (arith, room)

pub overflow_add-place-in-Some : goal.overflow_add-place-in-Some
overflow_add-place-in-Some g c =
    let starts = rw c.in-Some.is at c.in_ok-start.ensures in
    let rest = c.in_ok-rest.ensures in
    let room = search_room _ _ _ _ c.loop-intake.place c.in-Some.start c.loop-intake.intake c.pass_start.new.intake c.pass_rest.new.intake c.loop-intake.invariant starts
    rest.0 rest.2 c.in_ok-rest.rest rest.1 in
    omega (arith, room)

pub loop-intake-smaller : goal.loop-intake-smaller
loop-intake-smaller g c =
    let starts = rw c.in-Some.is at c.in_ok-start.ensures in
    let rest = c.in_ok-rest.ensures in
    search_less _ _ _ _ c.loop-intake.place c.in-Some.start c.loop-intake.intake c.pass_start.new.intake c.pass_rest.new.intake c.loop-intake.invariant starts
    rest.0 rest.2 c.in_ok-rest.rest rest.1

pub loop-intake-preserved : goal.loop-intake-preserved
loop-intake-preserved g c =
    let starts = rw c.in-Some.is at c.in_ok-start.ensures in
    let rest = c.in_ok-rest.ensures in
    search_on _ _ _ _ c.loop-intake.place c.in-Some.start c.loop-intake.intake c.pass_start.new.intake c.pass_rest.new.intake c.loop-intake.invariant starts
    rest.0 rest.2 c.in_ok-rest.rest rest.1
    (no_size c.in-Some.start.kind starts.bytes c.pass_start.new.intake starts.is (c.tracks_size.ensures.none c.in_default-tracks_size.is))
