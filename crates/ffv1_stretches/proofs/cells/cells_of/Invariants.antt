use Rattle.std.proofs.Common.{◌≡◌, map, take}
use Rattle.ffv1_stretches.specs.Inner.CellSteps.{cell_now, held_cells}
use Rattle.ffv1_stretches.proofs.cells.cells_of.Given as goal

-- what the copies so far have
abbrev pub invariant-loop-index : goal.invariant-loop-index
invariant-loop-index g l =
    map cell_now l.cells.items ≡ take l.index (held_cells l.stretch.size l.stretch.places (map (λ copy. copy.room.items) l.copies))
