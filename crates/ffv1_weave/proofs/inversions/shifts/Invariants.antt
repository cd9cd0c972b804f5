use Rattle.ffv1_weave.proofs.Common.{◌≡◌, ◌+◌, ◌<◌, ℕ, length, get_or, times_x}
use Rattle.ffv1_weave.specs.declared.inversions.TheConstants.{WIDTH}
use Rattle.ffv1_weave.proofs.inversions.shifts.Given as goal

-- The shifts so far, of which the power is the last.
abbrev pub invariant-loop-shift : goal.invariant-loop-shift
invariant-loop-shift l = record {
  long : length l.shifts ≡ WIDTH;
  power : l.power ≡ times_x l.left l.shift;
  are : (j : ℕ) → j < l.shift → get_or l.shifts j 0 ≡ times_x l.left (j + 1);
}
