use Rattle.std.proofs.Common.{map, take}
use Rattle.ffv1_mend.specs.Inner.Distinct.{AreDistinctOf}
use Rattle.ffv1_mend.proofs.distinct.distinct_versions.Given as goal

-- the versions so far
abbrev pub invariant-loop-version : goal.invariant-loop-version
invariant-loop-version l = AreDistinctOf (take l.version-index (map (λ version. version.now) l.versions)) (map (λ version. version.now) l.found.items)
