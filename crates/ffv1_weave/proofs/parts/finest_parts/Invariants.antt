use Rattle.ffv1_weave.proofs.Common.{ℕ, ◌<◌, map, get_or, splits, HasMany, Regions}
use Rattle.ffv1_weave.proofs.parts.finest_parts.Given as goal

-- by each split so far there are too many combinations
abbrev pub invariant-loop-split : goal.invariant-loop-split
invariant-loop-split l =
    (k : ℕ) → k < l.split-index → HasMany (map (λ version. version.now) l.versions) (get_or splits k Regions)
