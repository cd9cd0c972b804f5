use Rattle.ffv1_weave.proofs.Common.{map, ℕ, ◌≤◌, ◌<◌, AgreeAt}
use Rattle.ffv1_weave.proofs.regions.first_from.Given as goal

abbrev pub invariant-loop-place : goal.invariant-loop-place
invariant-loop-place l = (i : ℕ) → l.from ≤ i → i < l.place → AgreeAt (map (λ version. version.now) l.versions) i
