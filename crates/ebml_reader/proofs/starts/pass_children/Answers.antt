use Rattle.std.proofs.Common.{arith}
use Rattle.std.proofs.lemmas.Result.{err_from_is_err_and}
use Rattle.ebml_reader.proofs.Steps.{fault-after}
use Rattle.ebml_reader.proofs.StartSteps.{no_child_passed, child_fits, one_child_passed, children_passed}
use Rattle.ebml_reader.proofs.starts.pass_children.Goals as goal

pub loop-child-init : goal.loop-child-init
loop-child-init g c = no_child_passed c.args.intake.now _

pub returns-in_err-child : goal.returns-in_err-child
returns-in_err-child g c =
    let inv = c.loop-child.invariant in
    let p = err_from_is_err_and c.from_residual.result c.from_residual.ensures.1 in
    rw (p.1, p.2) (fault-after c.in_err-child.field-0.0 inv.bytes c.args.intake.now c.loop-child.intake _ _ _ inv.passes c.in_err-child.ensures)

pub overflow_add-passed : goal.overflow_add-passed
overflow_add-passed g c =
    let holds = rw c.in-Some.is at c.in_ok-child.ensures in
    let fits = child_fits c.loop-child.passed c.args.intake.now c.loop-child.intake c.held_child.new.intake _ _ _ c.loop-child.invariant c.in-Some.child holds c.requires in
    omega (arith, fits)

pub loop-child-smaller : goal.loop-child-smaller
loop-child-smaller g c =
    let holds = rw c.in-Some.is at c.in_ok-child.ensures in
    let fits = child_fits c.loop-child.passed c.args.intake.now c.loop-child.intake c.held_child.new.intake _ _ _ c.loop-child.invariant c.in-Some.child holds c.requires in
    let some = holds.some in
    omega (arith, fits, some)

pub loop-child-preserved : goal.loop-child-preserved
loop-child-preserved g c =
    let holds = rw c.in-Some.is at c.in_ok-child.ensures in
    one_child_passed c.loop-child.passed c.args.intake.now c.loop-child.intake c.held_child.new.intake _ _ _ c.loop-child.invariant c.in-Some.child holds c.requires
    c.pass.new.self c.pass.ensures

pub returns : goal.returns
returns g c =
    children_passed c.loop-child.passed c.args.intake.now c.loop-child.intake c.held_child.new.intake _ _ _ c.loop-child.invariant (rw c.in_default.is at c.in_ok-child.ensures)
