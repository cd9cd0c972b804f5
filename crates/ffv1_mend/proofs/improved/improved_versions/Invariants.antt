use Rattle.std.proofs.Common.{map, take}
use Rattle.ffv1_slice.specs.Members.{HasSameMembers}
use Rattle.ffv1_mend.specs.Content.{content_bytes}
use Rattle.ffv1_mend.specs.Improved.{part_value, improved}
use Rattle.ffv1_mend.proofs.improved.improved_versions.Given as goal

abbrev pub invariant-loop-version : goal.invariant-loop-version
invariant-loop-version l =
    HasSameMembers (improved (take l.version-index (map (λ version. version.now) l.versions)) l.parts (map part_value l.mends)) (map content_bytes l.all.items)
