use Rattle.std.proofs.Common.{◌≡◌, ◌+◌, ◌++◌, List, ℕ, length}
use Rattle.ffv1_texts.specs.Lines.{AreLines}
use Rattle.ffv1_scan.specs.Ranges.{AreRangeLines, Rises, ranges_end}
use Rattle.ffv1_scan.proofs.ranges.read_ranges.Given as goal

-- The lines so far are ranges; with those of the rest they are the lines of the text.
abbrev pub invariant-loop-rest : goal.invariant-loop-rest
invariant-loop-rest l = record {
  lines : List (List ℕ);
  on : (more : List (List ℕ)) → AreLines l.rest more → AreLines l.initial.rest (lines ++ more);
  each : AreRangeLines lines l.ranges.items;
  rise : Rises 0 l.ranges.items;
  end : l.last.place + l.last.size ≡ ranges_end 0 l.ranges.items;
}

abbrev pub decreases-loop-rest : goal.decreases-loop-rest
decreases-loop-rest l = length l.rest
