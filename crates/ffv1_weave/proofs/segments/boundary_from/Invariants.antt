use Rattle.ffv1_weave.proofs.Common.{ℕ, ◌-◌, ◌≤◌, ◌<◌, map, IsBoundary}
use Rattle.ffv1_weave.proofs.segments.boundary_from.Given as goal

abbrev pub invariant-loop-place : goal.invariant-loop-place
invariant-loop-place l =
    (l.from ≤ l.place) × (l.place ≤ l.size)
    × ((i : ℕ) → l.from ≤ i → i < l.place → IsBoundary l.distance (map (λ version. version.now) l.versions) i → ⊥)

abbrev pub decreases-loop-place : goal.decreases-loop-place
decreases-loop-place l = l.size - l.place
