use Rattle.ffv1_hold.proofs.Common.{◌≡◌, Result, Err, refl, HoldFault, OtherReel, PayloadTooLong, Memory}
use Rattle.ffv1_hold.proofs.PlanSteps.{kept_is_holding}
use Rattle.ffv1_hold.proofs.plan.union_of.Goals as goal

-- the one refusal that is left
only_memory : {T : Type 0} (f : HoldFault) → ((let r : Result T HoldFault = Err f in r) ≡ Err OtherReel → ⊥)
    → ((let r : Result T HoldFault = Err f in r) ≡ Err PayloadTooLong → ⊥) → f ≡ Memory
only_memory OtherReel same short = absurd (same refl)
only_memory PayloadTooLong same short = absurd (short refl)
only_memory Memory same short = refl

pub returns : goal.returns
returns c = record { ok = c.in_ok-join_with.ensures.joined; well_formed = kept_is_holding c.holding.inside c.join_with.new.self c.holding.view_is c.holding.invariant; memory = tt }
