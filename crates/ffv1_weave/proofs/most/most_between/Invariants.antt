use Rattle.ffv1_weave.proofs.Common.{map}
use Rattle.ffv1_weave.proofs.MostSteps.{AreMostSoFar}
use Rattle.ffv1_weave.proofs.most.most_between.Given as goal

-- what most versions have, of the byte strings so far
abbrev pub invariant-loop-choice : goal.invariant-loop-choice
invariant-loop-choice l =
    AreMostSoFar (map (λ version. version.now) l.versions) l.start l.end (map (λ choice. choice.now) l.choice-items) l.choice-index
    (map (λ choice. choice.now) l.most.items) l.greatest
