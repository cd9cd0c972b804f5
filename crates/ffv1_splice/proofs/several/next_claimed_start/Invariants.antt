use Rattle.ffv1_splice.proofs.Common.{ℕ, List, map, take, Contains, AreBytes}
use Rattle.ffv1_splice.proofs.SeveralSteps.{IsNext}
use Rattle.ffv1_splice.proofs.several.next_claimed_start.Given as goal

-- The least start that the copies so far claim from the place on.
abbrev pub invariant-loop-copy : goal.invariant-loop-copy
invariant-loop-copy l = record {
  next : IsNext (take l.copy-index (map (λ copy. copy.now) l.copies)) l.end l.from l.next;
  bytes : (copy : List ℕ) → Contains (take l.copy-index (map (λ copy. copy.now) l.copies)) copy → AreBytes copy;
}
