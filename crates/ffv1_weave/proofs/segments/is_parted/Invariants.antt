use Rattle.ffv1_weave.proofs.Common.{[], ℕ, ◌<◌, map, get_or, AreParted}
use Rattle.ffv1_weave.proofs.segments.is_parted.Given as goal

-- none of the others so far
abbrev pub invariant-loop-other : goal.invariant-loop-other
invariant-loop-other l =
    (k : ℕ) → k < l.other-index → AreParted l.distance l.one (get_or (map (λ other. other.now) l.others) k []) l.place → ⊥
