use Rattle.ffv1_weave.proofs.Common.{◌≡◌, ◌+◌, ◌*◌, ◌-◌, ◌<◌, ◌≤◌, ℕ, List, ◌++◌, length, IsFoundAmong, inversions_from, Slice}
use Rattle.ffv1_weave.proofs.OneBit.{power_left}
use Rattle.ffv1_weave.proofs.inversions.with_inversions.Given as goal

-- The bits from the loop's on are tried: while there are others, so many times 64, and the power is that of the one before them.
abbrev pub invariant-loop-bit : goal.invariant-loop-bit
invariant-loop-bit l = record {
  same : l.bytes ≡ l.initial.bytes;
  within : l.bit ≤ 8 * length l.bytes;
  power : 0 < l.bit → (i : ℕ) × (l.bit + 64 * i ≡ 8 * length l.bytes) × (l.power ≡ power_left (64 * i));
  found : (tried : List (List ℕ)) → IsFoundAmong Slice tried l.initial.found
      → IsFoundAmong Slice (inversions_from l.bytes l.bit (8 * length l.bytes - l.bit) ++ tried) l.found;
}

abbrev pub decreases-loop-bit : goal.decreases-loop-bit
decreases-loop-bit l = l.bit
