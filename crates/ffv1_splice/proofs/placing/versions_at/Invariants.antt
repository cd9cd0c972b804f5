use Rattle.ffv1_splice.proofs.Common.{◌≡◌, map, take, versions_at}
use Rattle.ffv1_splice.proofs.placing.versions_at.Given as goal

-- The versions of the copies so far.
abbrev pub invariant-loop-copy : goal.invariant-loop-copy
invariant-loop-copy l =
    map (λ version. version.now) l.versions.items ≡ take l.copy-index (versions_at (map (λ copy. copy.now) l.copies) l.start l.end)
