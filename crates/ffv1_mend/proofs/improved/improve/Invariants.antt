use Rattle.std.proofs.Common.{◌≡◌, length, map, take}
use Rattle.ffv1_mend.specs.Improved.{part_value, patched, given_patches}
use Rattle.ffv1_mend.proofs.improved.improve.Given as goal

abbrev pub invariant-loop-part : goal.invariant-loop-part
invariant-loop-part l =
    l.version ≡ patched l.fn.version (given_patches (take (length l.yielded) l.parts) (take (length l.yielded) (map part_value l.mends)))
