use Rattle.std.proofs.Common.{[], length, arith, ap}
use Rattle.std.proofs.lemmas.Result.{err_from_is_err_and}
use Rattle.ebml_reader.proofs.Steps.{fault-after}
use Rattle.ebml_reader.proofs.StreamSteps.{cut_child, whole_child}
use Rattle.ebml_reader.proofs.streamed.held_child.Goals as goal

pub returns-in_err-fill : goal.returns-in_err-fill
returns-in_err-fill g c =
    let claims = rw c.in-Some.is at c.in_ok-head.ensures in
    let p = err_from_is_err_and c.from_residual-in_err-fill.result c.from_residual-in_err-fill.ensures.1 in
    rw (p.1, p.2) (fault-after c.in_err-fill.field-0.0 [] c.args.intake.now c.claimed_child.new.intake _ _ _ claims.passes c.in_err-fill.ensures)

pub returns-then-bytes-length : goal.returns-then-bytes-length
returns-then-bytes-length g c =
    let claims = rw c.in-Some.is at c.in_ok-head.ensures in
    let same = ap length c.bytes.ensures.bytes in
    let less = c.if-bytes-length.true in
    cut_child c.args.ids.now c.args.left c.in-Some.head c.whole_length-length.result c.args.intake.now c.claimed_child.new.intake c.fill.new.self _ _ _ claims
    c.whole_length-length.ensures c.in_ok-fill.ensures.0 c.in_ok-fill.ensures.1 c.in_ok-fill.ensures.2 (omega (arith, same, less))

pub returns : goal.returns
returns g c =
    let claims = rw c.in-Some.is at c.in_ok-head.ensures in
    let same = ap length c.bytes.ensures.bytes in
    let more = c.if-bytes-length.false in
    whole_child c.args.ids.now c.args.left c.in-Some.head c.whole_length-length.result c.args.intake.now c.claimed_child.new.intake c.fill.new.self _ _ _ claims
    c.whole_length-length.ensures c.in_ok-fill.ensures.0 c.in_ok-fill.ensures.1 c.in_ok-fill.ensures.2 (omega (arith, same, more))
