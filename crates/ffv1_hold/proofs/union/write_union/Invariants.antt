use Rattle.ffv1_hold.proofs.Common.{◌≡◌, ◌+◌, ◌++◌, ℕ, List, length, Writes, AreDigests, digests_union}
use Rattle.ffv1_hold.proofs.DigestTexts.{whole}
use Rattle.ffv1_hold.proofs.union.write_union.Given as goal

-- The digests so far were written, and what is left is the union of what is left of both.
abbrev pub invariant-loop-digest : goal.invariant-loop-digest
invariant-loop-digest g l = record {
  written : (done : List ℕ) × Writes (g.S.Sink.log l.initial.sink) (g.S.Sink.log l.sink) done
      × (whole (digests_union l.fn.left l.fn.right) ≡ done ++ whole (digests_union l.lefts l.rights));
  left : AreDigests l.lefts;
  right : AreDigests l.rights;
}

abbrev pub decreases-loop-digest : goal.decreases-loop-digest
decreases-loop-digest g l = length l.lefts + length l.rights
