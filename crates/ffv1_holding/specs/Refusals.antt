-- What a refusal to restore says of a holding.
use Rattle.std.specs.Prelude.{◌≡◌, ℕ}
use Rattle.ffv1_holding.specs.Contents.{Contents}
use Rattle.ffv1_holding.specs.TileState.{missing, disputed, tile_state, IsLeastUnsettled, AreSettled}
use Rattle.ffv1_holding.specs.declared.restore.RestoreFault.{RestoreFault}
use Rattle.ffv1_holding.specs.declared.restore.RestoreFault.TheVariants.{Missing, Disputed, Memory}

-- It names the first tile that isn't settled, and how that stands. Memory is returned only if every tile is settled.
abbrev pub IsRefusal : Contents → RestoreFault → Type 0
IsRefusal h (Missing tile) = IsLeastUnsettled h tile × (tile_state h tile ≡ missing)
IsRefusal h (Disputed tile) = IsLeastUnsettled h tile × ((n : ℕ) × (tile_state h tile ≡ disputed n))
IsRefusal h Memory = AreSettled h
