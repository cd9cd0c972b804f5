use Rattle.std.proofs.Common.{[]}
use Rattle.std.proofs.lemmas.Result.{err_from_is_err_and}
use Rattle.ebml_reader.proofs.Steps.{fault-after}
use Rattle.ebml_reader.proofs.Given.{settles-after}
use Rattle.ebml_reader.proofs.settled.read_item.Goals as goal

pub returns-in_err-settled : goal.returns-in_err-settled
returns-in_err-settled g c =
    let p = err_from_is_err_and c.from_residual-in_err-settled.result c.from_residual-in_err-settled.ensures.1 in
    rw (p.1, p.2) (fault-after c.in_err-settled.field-0.0 [] c.args.intake.now c.fill.new.self _ _ _ c.in_ok-fill.ensures.0 c.in_err-settled.ensures)

pub returns : goal.returns
returns g c = settles-after c.in_ok-settled.settled c.args.intake.now c.fill.new.self c.settle.new.intake _ _ _ c.in_ok-fill.ensures.0 c.in_ok-settled.ensures
