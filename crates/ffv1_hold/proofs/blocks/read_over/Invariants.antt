use Rattle.ffv1_hold.proofs.Common.{◌≡◌, ℕ, ◌≤◌, ◌-◌, List, ◌++◌, length, take, drop, ordering_then, bytes_cmp, TakesText}
use Rattle.ffv1_hold.proofs.blocks.read_over.Given as goal

-- In front stands what was read, and after it what is left of the old bytes. What was read decides as the order says, and else what is
-- left does.
abbrev pub invariant-loop-done : goal.invariant-loop-done
invariant-loop-done g l = record {
  few : l.done ≤ l.count;
  within : l.done ≤ length l.bytes.items;
  read : TakesText (g.S.Source.log l.initial.source) (g.S.Source.log l.source) l.initial.place l.place (take l.done l.bytes.items);
  order : (rest : List ℕ) → bytes_cmp l.initial.bytes.items (take l.done l.bytes.items ++ rest)
      ≡ ordering_then l.order (bytes_cmp (drop l.done l.bytes.items) rest);
}

abbrev pub decreases-loop-done : goal.decreases-loop-done
decreases-loop-done g l = l.count - l.done
