use Rattle.std.proofs.Common.{[]}
use Rattle.std.proofs.lemmas.Result.{err_from_is_err_and}
use Rattle.ebml_reader.proofs.Steps.{fault-after}
use Rattle.ebml_reader.proofs.ChildSteps.{one_child_more, all_children}
use Rattle.ebml_reader.proofs.clusters.children_end.Goals as goal

pub returns-in_err-length : goal.returns-in_err-length
returns-in_err-length g c =
    let p = err_from_is_err_and c.from_residual.result c.from_residual.ensures.1 in
    rw (p.1, p.2) (fault-after c.in_err-length.field-0.0 [] c.args.intake.now c.loop-length.intake _ _ _ c.loop-length.invariant.passes c.in_err-length.ensures)

pub loop-length-preserved : goal.loop-length-preserved
loop-length-preserved g c =
    one_child_more c.args.head_length c.loop-length.end c.in-Some.length c.args.intake.now c.loop-length.intake c.read_child.new.intake _ _ _ c.loop-length.invariant
    (rw c.in-Some.is at c.in_ok-length.ensures)

pub returns : goal.returns
returns g c =
    all_children c.args.head_length c.loop-length.end c.args.intake.now c.loop-length.intake c.read_child.new.intake _ _ _ c.loop-length.invariant
    (rw c.in_default.is at c.in_ok-length.ensures)
