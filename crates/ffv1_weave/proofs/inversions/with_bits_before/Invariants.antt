use Rattle.ffv1_weave.proofs.Common.{◌≡◌, ◌*◌, ◌-◌, ℕ, List, ◌++◌, length, IsFoundAmong, inversions_from, Slice}
use Rattle.ffv1_weave.proofs.inversions.with_bits_before.Given as goal

-- So many bits before this one are tried too.
abbrev pub invariant-loop-at : goal.invariant-loop-at
invariant-loop-at l = record {
  same : l.bytes ≡ l.initial.bytes;
  found : (tried : List (List ℕ)) → IsFoundAmong Slice (inversions_from l.bytes l.bit (8 * length l.bytes - l.bit) ++ tried) l.initial.found
      → IsFoundAmong Slice (inversions_from l.bytes (l.bit - l.at) (8 * length l.bytes - (l.bit - l.at)) ++ tried) l.found;
}
