use Rattle.ffv1_splice.proofs.Common.{◌≤◌, ◌-◌, map, AreTriedBefore, tried_tally}
use Rattle.ffv1_splice.proofs.several.try_starts.Given as goal

-- What comes of the starts so far.
abbrev pub invariant-loop-start : goal.invariant-loop-start
invariant-loop-start l = record {
  within : l.from ≤ l.end;
  tried : AreTriedBefore (map (λ copy. copy.now) l.copies) l.end l.from (tried_tally l.tried);
}

abbrev pub decreases-loop-start : goal.decreases-loop-start
decreases-loop-start l = l.end - l.from
