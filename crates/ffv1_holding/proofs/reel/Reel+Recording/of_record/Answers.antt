use Rattle.std.proofs.Common.{ℕ, List, rules, refl, sym, ap, subst}
use Rattle.std.proofs.lemmas.Result.{err_from_is_err_and}
use Rattle.ffv1_range.specs.Setup.{IsScopedRecord}
use Rattle.ffv1_range.specs.declared.scope.Scope.{Scope}
use Rattle.ffv1_holding.specs.Reels.{IsRecordReel, IsRecordingFor, reel_of}
use Rattle.ffv1_holding.proofs.Reels.{reel_is}
use Rattle.ffv1_holding.proofs.reel.Reel+Recording.of_record.Goals as goal

well_formed : (c : goal.In_ok-setup) → IsRecordReel (reel_of c.args.config.items c.in_ok-setup.setup)
well_formed c =
    reel_is c.args.recordings c.args.config.items c.args.width c.args.height c.in_ok-setup.setup
    (subst (λ (config : List ℕ). IsRecordingFor c.args.recordings config c.args.width c.args.height c.in_ok-setup.setup) c.deref.ensures.value
    (search rules))

pub invariant_of-result : goal.invariant_of-result
invariant_of-result c = (well_formed c, refl)

pub returns-clause-well_formed : goal.returns-clause-well_formed
returns-clause-well_formed c = well_formed c

pub returns-clause-only : goal.returns-clause-only
returns-clause-only c r is =
    ap (reel_of c.args.config.items)
    (c.in_ok-setup.ensures.only r
    (subst (λ (scope : Scope). IsScopedRecord c.deref.result.now scope c.args.width c.args.height r) (sym c.scope.ensures) (subst (λ (config : List ℕ). IsRecordingFor c.args.recordings config c.args.width c.args.height r) (sym c.deref.ensures.value) is)))

pub returns-in_err-setup-clause-only : goal.returns-in_err-setup-clause-only
returns-in_err-setup-clause-only c =
    λ r is.
    let p = err_from_is_err_and c.from_residual.result c.from_residual.ensures.1 in
    rw (p.1, p.2)
    (c.in_err-setup.ensures.only r
    (subst (λ (scope : Scope). IsScopedRecord c.deref.result.now scope c.args.width c.args.height r) (sym c.scope.ensures) (subst (λ (config : List ℕ). IsRecordingFor c.args.recordings config c.args.width c.args.height r) (sym c.deref.ensures.value) is)))
