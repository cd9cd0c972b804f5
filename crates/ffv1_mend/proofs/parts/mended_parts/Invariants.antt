use Rattle.std.proofs.Common.{map, take}
use Rattle.ffv1_mend.specs.Improved.{ArePartMends, part_value}
use Rattle.ffv1_mend.proofs.parts.mended_parts.Given as goal

abbrev pub invariant-loop-part : goal.invariant-loop-part
invariant-loop-part l = ArePartMends (map (λ version. version.now) l.versions) (take l.part-index l.parts) (map part_value l.mends.items)
