use Rattle.ffv1_splice.proofs.Common.{◌≡◌, map, take, versions_at, sized}
use Rattle.ffv1_splice.proofs.sized.sized_versions.Given as goal

-- The versions of the copies so far.
abbrev pub invariant-loop-copy : goal.invariant-loop-copy
invariant-loop-copy l =
    map (λ version. version.items) l.versions.items ≡ map sized (versions_at (take l.copy-index (map (λ copy. copy.now) l.copies)) l.start l.end)
