use Rattle.std.proofs.Common.{◌≡◌, length, map, take}
use Rattle.ffv1_mend.specs.Improved.{part_value, patched, whole_patches}
use Rattle.ffv1_mend.proofs.improved.write_parts.Given as goal

abbrev pub invariant-loop-part : goal.invariant-loop-part
invariant-loop-part l =
    l.bytes ≡ patched l.fn.bytes (whole_patches (take (length l.yielded) l.parts) (take (length l.yielded) (map part_value l.mends)))
