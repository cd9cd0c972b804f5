use Rattle.std.proofs.Common.{◌++◌, arith, rules, length-append}
use Rattle.std.proofs.lemmas.List.{length-take-le}
use Rattle.std.proofs.lemmas.Result.{err_from_is_err_and}
use Rattle.ffv1_devices.proofs.Steps.{Reads-trans}
use Rattle.ffv1_devices.proofs.ExactSteps.{EndsBefore-after}
use Rattle.ffv1_devices.proofs.exact.pass_over.Goals as goal

pub returns-in_err-fill : goal.returns-in_err-fill
returns-in_err-fill g c =
    let p = err_from_is_err_and c.from_residual.result c.from_residual.ensures.1 in
    let passed = c.loop-left.invariant.passed in
    rw p.1 (EndsBefore-after _ _ _ passed.0 _ _ passed.1 c.in_err-fill.ensures (omega (arith, passed.2, length-take-le c.min-size.result c.loop-left.room (omega arith))))

pub loop-left-preserved : goal.loop-left-preserved
loop-left-preserved g c =
    let passed = c.loop-left.invariant.passed in
    record {
      room = search rules;
      passed = (passed.0 ++ c.fill.new.buf, Reads-trans _ _ _ _ _ passed.1 c.in_ok-fill.ensures, omega (arith, passed.2, length-append passed.0 c.fill.new.buf, length-take-le c.min-size.result c.loop-left.room (omega arith)));
    }
