use Rattle.std.proofs.Common.{ℕ, List, rules, subst}
use Rattle.std.proofs.lemmas.Result.{err_from_is_err_and}
use Rattle.ffv1_holding.specs.TakeFaults.{IsTakeFault}
use Rattle.ffv1_commands.proofs.TakeReported.{copy_untaken}
use Rattle.ffv1_commands.proofs.take.take_copy.Goals as goal

pub returns-in_err-payload-clause-reported : goal.returns-in_err-payload-clause-reported
returns-in_err-payload-clause-reported g c =
    let p = err_from_is_err_and c.from_residual.result c.from_residual.ensures.1 in
    rw (p.1, p.2) c.in_err-payload.ensures

pub returns-in_err-taken-clause-reported : goal.returns-in_err-taken-clause-reported
returns-in_err-taken-clause-reported g c =
    let p = err_from_is_err_and c.from_residual-in_err-taken.result c.from_residual-in_err-taken.ensures.1 in
    let f = c.in_err-taken.field-0.0 in
    let refused = subst (λ (copy : List ℕ). IsTakeFault copy f) c.as_slice.ensures.value c.in_err-taken.ensures.fault in
    let (a, b, so, took) = c.in_ok-payload.ensures in
    rw (p.1, p.2) (a, b, so, copy_untaken c.args.before _ _ c.in_ok-payload.payload.items took f refused)

pub returns-in_err-push_taken-clause-reported : goal.returns-in_err-push_taken-clause-reported
returns-in_err-push_taken-clause-reported g c =
    let p = err_from_is_err_and c.from_residual-in_err-push_taken.result c.from_residual-in_err-push_taken.ensures.1 in
    let (a, b, so, took) = c.in_ok-payload.ensures in
    rw (p.1, p.2) (a, b, so, (c.in_ok-payload.payload.items, took.read, took.few))

pub returns-clause-reported : goal.returns-clause-reported
returns-clause-reported g c =
    let (a, b, so, took) = c.in_ok-payload.ensures in
    (a, b, so, record { copy = c.in_ok-payload.payload.items; read = took; held = search rules; line = search rules; order = search rules })
