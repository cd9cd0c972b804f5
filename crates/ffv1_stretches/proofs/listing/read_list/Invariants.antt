use Rattle.std.proofs.Common.{◌≡◌, ◌+◌, ◌++◌, ◌≤◌, List, ℕ, length}
use Rattle.ffv1_texts.specs.Lines.{AreLines}
use Rattle.ffv1_stretches.specs.Listed.{AreListed}
use Rattle.ffv1_stretches.specs.Inner.ListSteps.{IsListedTo}
use Rattle.ffv1_stretches.proofs.listing.read_list.Given as goal

-- The lines so far list the stretches; with those of the rest they are the lines of the text.
abbrev pub invariant-loop-rest : goal.invariant-loop-rest
invariant-loop-rest l = record {
  lines : List (List ℕ);
  on : (more : List (List ℕ)) → AreLines l.rest more → AreLines l.initial.rest (lines ++ more);
  listed : AreListed l.fn.copies lines l.stretches.items;
  ends : IsListedTo l.ends.items l.stretches.items;
  count : length l.ends.items ≡ l.fn.copies;
  number : l.number ≡ length lines;
  left : l.number + length l.rest ≤ length l.initial.rest;
}

abbrev pub decreases-loop-rest : goal.decreases-loop-rest
decreases-loop-rest l = length l.rest
