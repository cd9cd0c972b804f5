use Rattle.std.proofs.Common.{◌≡◌, ◌<◌, ℕ, true}
use Rattle.ffv1_layout.specs.Inner.Marking.{tile_mark}
use Rattle.ffv1_layout.proofs.tiles.first_free.Given as goal

-- the tiles so far are marked
abbrev pub invariant-loop-tile : goal.invariant-loop-tile
invariant-loop-tile l = (k : ℕ) → k < l.tile → tile_mark l.marks k ≡ true
