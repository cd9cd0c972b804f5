use Rattle.std.proofs.Common.{◌≡◌, map, take}
use Rattle.ffv1_splice.specs.Standings.{versions_at}
use Rattle.ffv1_mend.proofs.parts.versions_at.Given as goal

abbrev pub invariant-loop-version : goal.invariant-loop-version
invariant-loop-version l =
    map (λ frame. frame.now) l.frames.items ≡ take l.version-index (versions_at (map (λ version. version.now) l.versions) l.part.start l.part.end)
