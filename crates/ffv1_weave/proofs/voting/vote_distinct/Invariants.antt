use Rattle.ffv1_weave.proofs.Common.{map}
use Rattle.ffv1_weave.proofs.VoteSteps.{AreTriedBefore}
use Rattle.ffv1_weave.proofs.voting.vote_distinct.Given as goal

-- what is found by the splits so far, and how many were tried
abbrev pub invariant-loop-split : goal.invariant-loop-split
invariant-loop-split l = AreTriedBefore (map (λ version. version.now) l.versions) l.split-index l.found l.count
