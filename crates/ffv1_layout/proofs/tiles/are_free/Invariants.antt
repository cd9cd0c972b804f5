use Rattle.std.proofs.Common.{◌≡◌, ◌<◌, ◌≤◌, ℕ, false}
use Rattle.ffv1_layout.specs.Inner.Marking.{tile_mark}
use Rattle.ffv1_layout.proofs.tiles.are_free.Given as goal

-- the tiles so far are not marked
abbrev pub invariant-loop-tile : goal.invariant-loop-tile
invariant-loop-tile l = (k : ℕ) → l.first ≤ k → k < l.tile → tile_mark l.marks k ≡ false
