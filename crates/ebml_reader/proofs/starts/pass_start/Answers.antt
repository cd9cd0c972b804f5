use Rattle.std.proofs.Common.{[]}
use Rattle.std.proofs.lemmas.Result.{err_from_is_err_and}
use Rattle.ebml_reader.proofs.Steps.{fault-after}
use Rattle.ebml_reader.proofs.StartSteps.{start_there}
use Rattle.ebml_reader.proofs.starts.pass_start.Goals as goal

pub returns-in_err-length : goal.returns-in_err-length
returns-in_err-length g c =
    let p = err_from_is_err_and c.from_residual-in_err-length.result c.from_residual-in_err-length.ensures.1 in
    rw (p.1, p.2) (fault-after c.in_err-length.field-0.0 [] c.args.intake.now c.fill.new.self _ _ _ c.in_ok-fill.ensures.0 c.in_err-length.ensures)

pub returns : goal.returns
returns g c = start_there _ c.in_ok-length.length c.args.intake.now c.fill.new.self c.pass_front.new.intake _ _ _ c.in_ok-fill.ensures.0 c.in_ok-length.ensures
