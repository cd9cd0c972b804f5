use Rattle.ffv1_layout.specs.Inner.Marking.{AreMarked, IsInRows}
use Rattle.ffv1_layout.proofs.tiles.mark_slice.Given as goal

-- the tiles of the rows so far were marked
abbrev pub invariant-loop-row : goal.invariant-loop-row
invariant-loop-row l = AreMarked (IsInRows l.across l.header l.row) l.fn.marks l.marks
