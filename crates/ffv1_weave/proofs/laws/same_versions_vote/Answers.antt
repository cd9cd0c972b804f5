use Rattle.ffv1_weave.proofs.VoteLaws.{same_versions_vote}
use Rattle.ffv1_weave.proofs.laws.same_versions_vote.Goals as goal

pub returns : goal.returns
returns c = same_versions_vote
