-- The fault of one tile.
use Rattle.std.specs.Prelude.{ℕ}
use Rattle.ffv1_plane.specs.declared.tile.TileFault.{TileFault}
use Rattle.ffv1_plane.specs.declared.tile.TileFault.TheVariants as tiles
use Rattle.ffv1_picture.specs.declared.fault.FrameFault.{FrameFault}
use Rattle.ffv1_picture.specs.declared.fault.FrameFault.TheVariants.{Tile, Memory}

-- the fault of a frame whose tile was not decoded
abbrev pub fault_of_tile : ℕ → TileFault → FrameFault
fault_of_tile tile tiles.Memory = Memory
fault_of_tile tile cause = Tile tile cause
