use Rattle.std.proofs.Common.{◌≤◌, ℕ, List, length, map, Bor}
use Rattle.ffv1_layout.specs.Inner.Cutting.{AreCutAfter}
use Rattle.ffv1_layout.proofs.cut.cut_slices.Given as goal

-- the slices so far stand after the place, no more than may be
abbrev pub invariant-loop-end : goal.invariant-loop-end
invariant-loop-end l = record {
  cut : AreCutAfter l.footer l.payload l.end (map (λ (slice : Bor (List ℕ)). slice.now) l.slices.items);
  few : length l.slices.items ≤ l.most;
}

abbrev pub decreases-loop-end : goal.decreases-loop-end
decreases-loop-end l = l.end
