use Rattle.ffv1_weave.proofs.Common.{map, take, AreChoices}
use Rattle.ffv1_weave.proofs.parts.choices_between.Given as goal

-- what the versions so far have there
abbrev pub invariant-loop-version : goal.invariant-loop-version
invariant-loop-version l =
    AreChoices (take l.version-index (map (λ version. version.now) l.versions)) l.start l.end (map (λ choice. choice.now) l.choices.items)
