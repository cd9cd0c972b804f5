use Rattle.ffv1_weave.proofs.Common.{◌≤◌, map, take, AreNumbered, HasChoice}
use Rattle.ffv1_weave.proofs.most.how_many.Given as goal

-- so many of the versions so far have the byte string
abbrev pub invariant-loop-version : goal.invariant-loop-version
invariant-loop-version l = record {
  counted : AreNumbered (HasChoice (take l.version-index (map (λ version. version.now) l.versions)) l.start l.end l.choice) l.count;
  bound : l.count ≤ l.version-index;
}
