use Rattle.ffv1_weave.proofs.Common.{[], ◌≡◌, ℕ, ◌<◌, map, get_or, slice_range}
use Rattle.ffv1_weave.proofs.regions.agree_between.Given as goal

-- the versions so far have the bytes of the first
abbrev pub invariant-loop-version : goal.invariant-loop-version
invariant-loop-version l =
    (k : ℕ) → k < l.version-index → slice_range (get_or (map (λ version. version.now) l.versions) k []) l.start l.end
    ≡ slice_range (get_or (map (λ version. version.now) l.versions) 0 []) l.start l.end
