use Rattle.std.proofs.Common.{◌-◌}
use Rattle.ffv1_layout.specs.Inner.Marking.{AreMarked, IsFrom}
use Rattle.ffv1_layout.proofs.tiles.mark.Given as goal

-- the tiles so far were marked
abbrev pub invariant-loop-tile : goal.invariant-loop-tile
invariant-loop-tile l = AreMarked (IsFrom l.first (l.tile - l.first)) l.fn.marks l.marks
