use Rattle.std.proofs.Common.{ℕ, List, Err, refl, sym, ap, subst}
use Rattle.std.proofs.lemmas.Result.{err_from_is_err_and}
use Rattle.ffv1_range.specs.Setup.{IsSetupOf}
use Rattle.ffv1_range.specs.TileHeaders.{profile_rules}
use Rattle.ffv1_holding.specs.Reels.{IsRecordReel}
use Rattle.ffv1_holding.proofs.Reels.{setup_reel}
use Rattle.ffv1_holding.proofs.reel.Reel+Setup.read.Goals as goal

well_formed : (c : goal.In_ok-setup) → IsRecordReel (record { config = c.args.config.items; setup = c.in_ok-setup.setup; rules = profile_rules c.in_ok-setup.setup })
well_formed c =
    setup_reel c.args.config.items c.args.width c.args.height c.in_ok-setup.setup
    (subst (λ (config : List ℕ). IsSetupOf config c.args.width c.args.height c.in_ok-setup.setup) c.deref.ensures.value c.in_ok-setup.ensures.found)

pub invariant_of-result : goal.invariant_of-result
invariant_of-result c = (well_formed c, refl)

pub returns-clause-well_formed : goal.returns-clause-well_formed
returns-clause-well_formed c = well_formed c

pub returns-in_err-setup-clause-only : goal.returns-in_err-setup-clause-only
returns-in_err-setup-clause-only c =
    λ s is.
    let p = err_from_is_err_and c.from_residual.result c.from_residual.ensures.1 in
    rw (p.1, p.2)
    (ap Err (c.in_err-setup.ensures.only s (subst (λ (config : List ℕ). IsSetupOf config c.args.width c.args.height s) (sym c.deref.ensures.value) is)))
