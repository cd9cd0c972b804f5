use Rattle.std.proofs.Common.{rules}
use Rattle.ffv1_range.proofs.grid.Grid.tiles.Goals as goal

pub returns-clause-value : goal.returns-clause-value
returns-clause-value c = search rules
