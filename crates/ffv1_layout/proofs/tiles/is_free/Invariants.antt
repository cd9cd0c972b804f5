use Rattle.std.proofs.Common.{◌≡◌, ℕ, false}
use Rattle.ffv1_layout.specs.Inner.Marking.{tile_mark, IsInRows}
use Rattle.ffv1_layout.proofs.tiles.is_free.Given as goal

-- the tiles of the rows so far are not marked
abbrev pub invariant-loop-row : goal.invariant-loop-row
invariant-loop-row l = (tile : ℕ) → IsInRows l.across l.header l.row tile → tile_mark l.marks tile ≡ false
