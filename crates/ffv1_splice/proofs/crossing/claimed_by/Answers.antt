use Rattle.ffv1_splice.proofs.ClaimedEnds.{no_claimed, only_claimed}
use Rattle.ffv1_splice.proofs.crossing.claimed_by.Goals as goal

pub returns-in_default : goal.returns-in_default
returns-in_default c = no_claimed c.args.copy.now c.args.reach c.in_default.ensures

pub returns-in-None : goal.returns-in-None
returns-in-None c = only_claimed c.args.copy.now c.args.reach c.in-Some.first c.in-Some.ensures c.in-None.ensures
