use Rattle.std.proofs.Common.{drop, map}
use Rattle.ffv1_vectors.specs.Inner.Asked.{HasSets}
use Rattle.ffv1_vectors.proofs.asked.has_sets.Given as goal

-- The sets so far are those asked for: all are, where the rest are.
abbrev pub invariant-loop-set : goal.invariant-loop-set
invariant-loop-set l =
    HasSets l.setup l.set (map (λ tables. map (λ runs. runs.items) tables.items) (drop l.set l.sets))
    → HasSets l.setup 0 (map (λ tables. map (λ runs. runs.items) tables.items) l.sets)
