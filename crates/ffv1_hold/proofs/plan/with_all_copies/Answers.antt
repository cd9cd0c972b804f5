use Rattle.ffv1_hold.proofs.Common.{◌<◌, sym, map, length, subst, arith, length-map, take-map, err_from_is_err_and, AreShort}
use Rattle.ffv1_hold.proofs.PlanSteps.{kept_is_holding}
use Rattle.ffv1_hold.proofs.plan.with_all_copies.Goals as goal

pub returns-in_err-take_all : goal.returns-in_err-take_all
returns-in_err-take_all c =
    let p = err_from_is_err_and c.from_residual.result c.from_residual.ensures.1 in
    let fault = c.in_err-take_all.field-0.0 in
    let copies = c.args.copies.now in
    let lt : fault.taken < length (map (λ copy. copy.now) copies) = omega
    (arith, c.in_err-take_all.ensures.some.0, length-map copies (λ copy. copy.now)) in
    let short = subst AreShort (sym (take-map (λ copy. copy.now) fault.taken copies)) c.in_err-take_all.ensures.some_short in
    rw (p.1, p.2) (record { ok = tt; well_formed = tt; short = tt; fault = (fault.taken, lt, short, c.in_err-take_all.ensures.cause) })

pub returns : goal.returns
returns c = record { ok = c.in_ok-take_all.ensures.ok; well_formed = kept_is_holding c.holding.inside c.take_all.new.self c.holding.view_is c.holding.invariant; short = c.in_ok-take_all.ensures.short; fault = tt }
