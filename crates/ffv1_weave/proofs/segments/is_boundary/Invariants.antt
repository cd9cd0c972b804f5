use Rattle.ffv1_weave.proofs.Common.{[], List, ℕ, ◌<◌, map, get_or, Contains, AreParted}
use Rattle.ffv1_weave.proofs.segments.is_boundary.Given as goal

-- none of the versions so far is parted from any
abbrev pub invariant-loop-one : goal.invariant-loop-one
invariant-loop-one l =
    (k : ℕ) → k < l.one-index → (other : List ℕ) → Contains (map (λ version. version.now) l.versions) other
    → AreParted l.distance (get_or (map (λ version. version.now) l.versions) k []) other l.place → ⊥
