use Rattle.ffv1_hold.proofs.Common.{sym, ap, ◌∙◌, holding_of, holding_of-same}
use Rattle.ffv1_hold.proofs.PlanSteps.{one_reel}
use Rattle.ffv1_hold.proofs.plan.same_copies.Goals as goal

pub returns : goal.returns
returns c recordings config width height a b copies others is also a_is b_is same =
    a_is ∙ ap (λ r. holding_of r copies) (one_reel recordings config width height a.reel b.reel is also) ∙ holding_of-same b.reel copies others same ∙ sym b_is
