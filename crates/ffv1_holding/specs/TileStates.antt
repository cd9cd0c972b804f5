-- What a `TileState` shows.
use Rattle.ffv1_holding.specs.TileState.{StateOfTile, missing, settled, disputed}
use Rattle.ffv1_holding.specs.declared.standing.TileState.{TileState}
use Rattle.ffv1_holding.specs.declared.standing.TileState.TheVariants.{Missing, Settled, Disputed}

abbrev pub state_shown : TileState → StateOfTile
state_shown Missing = missing
state_shown (Settled slice) = settled slice.now
state_shown (Disputed slices) = disputed slices
