use Rattle.std.proofs.Common.{◌≡◌, true, map, take}
use Rattle.std.specs.List.{list_all}
use Rattle.ffv1_stretches.specs.Inner.CellSteps.{cell_now}
use Rattle.ffv1_stretches.specs.Lines.{is_same}
use Rattle.ffv1_stretches.proofs.lines.all_same.Given as goal

-- each copy so far has the bytes
abbrev pub invariant-loop-cell : goal.invariant-loop-cell
invariant-loop-cell l = list_all (is_same l.bytes) (take l.cell-index (map cell_now l.cells)) ≡ true
