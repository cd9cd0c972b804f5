use Rattle.std.proofs.Common.{[], arith}
use Rattle.std.proofs.lemmas.Result.{err_from_is_err_and}
use Rattle.ebml_reader.proofs.Steps.{fault-after}
use Rattle.ebml_reader.proofs.ChildSteps.{child_there, none_read}
use Rattle.ebml_reader.proofs.clusters.read_child.Goals as goal

pub returns-in_err-fill-2 : goal.returns-in_err-fill-2
returns-in_err-fill-2 g c =
    let p = err_from_is_err_and c.from_residual-in_err-fill-2.result c.from_residual-in_err-fill-2.ensures.1 in
    rw (p.1, p.2) (fault-after c.in_err-fill-2.field-0.0 [] c.args.intake.now c.fill.new.self _ _ _ c.in_ok-fill.ensures.0 c.in_err-fill-2.ensures)

pub returns-in-Some : goal.returns-in-Some
returns-in-Some g c =
    child_there c.args.place c.in-Some.child.length c.args.intake.now c.fill.new.self c.fill-2.new.self _ _ _ c.bytes-2.result.now c.in-Some.child.head
    c.requires c.bytes-2.ensures.bytes c.in_ok-fill.ensures.0 c.in_ok-fill-2.ensures.0 c.in_ok-fill-2.ensures.2 c.in-Some.ensures.some c.in-Some.ensures.within
    c.in-Some.ensures.found c.in-Some.ensures.known

pub returns-in-None : goal.returns-in-None
returns-in-None g c =
    none_read c.args.place c.claimed_length-claimed.result c.saturating_add.result c.saturating_add-2.result c.args.intake.now c.fill.new.self c.fill-2.new.self _ _ _
    c.bytes.result.now c.bytes-2.result.now c.bytes.ensures.bytes c.bytes-2.ensures.bytes c.requires c.in_ok-fill.ensures.0 c.in_ok-fill-2.ensures.0
    (omega (arith, c.saturating_add.ensures)) c.in_ok-fill.ensures.1 c.claimed_length-claimed.ensures (omega (arith, c.saturating_add-2.ensures))
    c.in_ok-fill-2.ensures.1 c.in_ok-fill-2.ensures.2 c.in-None.ensures.none
