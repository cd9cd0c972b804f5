use Rattle.std.proofs.lemmas.Result.{err_from_is_err_and}
use Rattle.ffv1_devices.proofs.Steps.{Writes-trans, StopsWriting-after, StopsWriting-of}
use Rattle.ffv1_devices.proofs.writes.write_pair.Goals as goal

pub returns-in_err-write_field : goal.returns-in_err-write_field
returns-in_err-write_field g c =
    let p = err_from_is_err_and c.from_residual.result c.from_residual.ensures.1 in
    rw p.1 (StopsWriting-of _ _ _ _ c.in_err-write_field.ensures)

pub returns-in_err-write_field-2 : goal.returns-in_err-write_field-2
returns-in_err-write_field-2 g c =
    let p = err_from_is_err_and c.from_residual-in_err-write_field-2.result c.from_residual-in_err-write_field-2.ensures.1 in
    rw p.1 (StopsWriting-after _ _ _ _ _ c.in_ok-write_field.ensures c.in_err-write_field-2.ensures)

pub returns : goal.returns
returns g c = Writes-trans _ _ _ _ _ c.in_ok-write_field.ensures c.in_ok-write_field-2.ensures
