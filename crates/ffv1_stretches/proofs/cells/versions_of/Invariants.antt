use Rattle.std.proofs.Common.{◌≡◌, map, take}
use Rattle.ffv1_stretches.specs.Cells.{versions_in}
use Rattle.ffv1_stretches.specs.Inner.CellSteps.{cell_now}
use Rattle.ffv1_stretches.proofs.cells.versions_of.Given as goal

-- the versions so far
abbrev pub invariant-loop-cell : goal.invariant-loop-cell
invariant-loop-cell l = map (λ version. version.now) l.versions.items ≡ versions_in (take l.cell-index (map cell_now l.cells))
