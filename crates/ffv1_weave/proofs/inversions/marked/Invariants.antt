use Rattle.ffv1_weave.proofs.Common.{◌≡◌, ◌%◌, ◌<◌, ℕ, true, false, length, get_or}
use Rattle.ffv1_weave.specs.declared.inversions.TheConstants.{MARKS}
use Rattle.ffv1_weave.proofs.inversions.marked.Given as goal

-- The shifts so far are marked.
abbrev pub invariant-loop-shift : goal.invariant-loop-shift
invariant-loop-shift l = record {
  long : length l.marks ≡ MARKS;
  are : (j : ℕ) → j < l.shift-index → get_or l.marks (get_or l.shifts j 0 % MARKS) false ≡ true;
}
