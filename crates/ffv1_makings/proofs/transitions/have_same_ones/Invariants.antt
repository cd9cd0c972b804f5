use Rattle.std.proofs.Common.{◌≡◌, ◌<◌, ◌≤◌, ℕ}
use Rattle.std.specs.Prelude.{slice_index}
use Rattle.ffv1_makings.proofs.transitions.have_same_ones.Given as goal

-- The states so far become the same.
abbrev pub invariant-loop-state : goal.invariant-loop-state
invariant-loop-state l =
    (k : ℕ) → 1 ≤ k → k < l.state → slice_index l.transitions.one k ≡ slice_index l.others.one k
