use Rattle.std.proofs.Common.{◌≡◌, ◌<◌, ◌*◌, ℕ}
use Rattle.ffv1_range.specs.Tables.{runs_ended}
use Rattle.ffv1_makings.specs.Inner.ReadBack.{half_entry}
use Rattle.ffv1_makings.proofs.sets.has_half.Given as goal

-- The entries so far are those of the runs.
abbrev pub invariant-loop-index : goal.invariant-loop-index
invariant-loop-index l =
    (k : ℕ) → k < l.index → half_entry l.recording l.set l.table k ≡ l.scale * runs_ended 0 l.runs k
