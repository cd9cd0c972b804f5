use Rattle.std.proofs.Common.{refl}
use Rattle.ffv1_holding.proofs.HoldingSteps.{kept-moved}
use Rattle.ffv1_holding.proofs.holding.Holding+Recording.into_profile.Goals as goal

pub invariant_of-result : goal.invariant_of-result
invariant_of-result c = kept-moved c.self.inside _ c.in-Ok.ensures.ok.0 refl c.self.invariant

pub invariant_of-result-in-Err : goal.invariant_of-result-in-Err
invariant_of-result-in-Err c = kept-moved c.self.inside _ c.in-Err.ensures.err.0 refl c.self.invariant
