use Rattle.std.proofs.Common.{◌≡◌, map, take}
use Rattle.ffv1_stretches.specs.Inner.CellSteps.{cell_now}
use Rattle.ffv1_stretches.specs.Lines.{cells_between}
use Rattle.ffv1_stretches.proofs.lines.narrowed.Given as goal

-- what the copies so far have
abbrev pub invariant-loop-cell : goal.invariant-loop-cell
invariant-loop-cell l = map cell_now l.narrow.items ≡ take l.cell-index (cells_between (map cell_now l.cells) l.start l.end)
