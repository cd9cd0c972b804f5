use Rattle.ffv1_splice.proofs.Common.{arith}
use Rattle.ffv1_splice.proofs.ClaimedEnds.{found_claim}
use Rattle.ffv1_splice.proofs.crossing.next_claimed.Goals as goal

pub returns : goal.returns
returns c =
    found_claim c.args.copy.now c.args.reach c.first_claim.result c.args.from c.saturating_add.result c.min.result
    (λ i. omega (arith, c.type_inv.copy i)) c.requires.content c.saturating_add.ensures c.min.ensures c.first_claim.ensures
