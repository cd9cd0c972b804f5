use Rattle.std.proofs.Common.{◌≡◌, sym, ap, subst, List, ℕ, Err, refl, inl}
use Rattle.std.proofs.lemmas.Result.{err_from_is_err_and}
use Rattle.ffv1_range.specs.Setup.{IsSetupOf}
use Rattle.ffv1_range.specs.declared.fault.SetupFault.TheVariants.{Memory}
use Rattle.ffv1_holding.proofs.holding.Holding+Setup.new.Goals as goal

pub returns-in_err-reel-clause-only : goal.returns-in_err-reel-clause-only
returns-in_err-reel-clause-only c =
    λ s is.
    let p = err_from_is_err_and c.from_residual.result c.from_residual.ensures.1 in
    let own = c.in_err-reel.ensures.only s (subst (λ (bytes : List ℕ). IsSetupOf bytes c.args.width c.args.height s) (sym c.in-Ok.ensures.items) is) in
    let memory : c.in_err-reel.field-0.0 ≡ Memory = cc own in
    rw (p.1, p.2) (ap Err memory)

pub returns-in_default : goal.returns-in_default
returns-in_default c = record { empty = tt; config = tt; setup = tt; well_formed = tt; only = λ s is. refl; fault = inl refl }

pub returns-in_default-of_reel : goal.returns-in_default-of_reel
returns-in_default-of_reel c = record { empty = tt; config = tt; setup = tt; well_formed = tt; only = λ s is. refl; fault = inl refl }
