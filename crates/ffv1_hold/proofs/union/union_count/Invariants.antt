use Rattle.ffv1_hold.proofs.Common.{◌≡◌, ◌≤◌, ◌+◌, length, AreDigests, digests_union}
use Rattle.ffv1_hold.proofs.union.union_count.Given as goal

-- The digests so far, and those of the union of what is left, are those of both.
abbrev pub invariant-loop-digest : goal.invariant-loop-digest
invariant-loop-digest l = record {
  total : l.count + length (digests_union l.lefts l.rights) ≡ length (digests_union l.fn.left l.fn.right);
  left : AreDigests l.lefts;
  right : AreDigests l.rights;
  few : l.count + (length l.lefts + length l.rights) ≤ length l.fn.left + length l.fn.right;
}

abbrev pub decreases-loop-digest : goal.decreases-loop-digest
decreases-loop-digest l = length l.lefts + length l.rights
