use Rattle.ffv1_range.proofs.Spelling.{symbol_is_spelled}
use Rattle.ffv1_range.proofs.symbols.symbol_is_spelled.Goals as goal

pub returns : goal.returns
returns c = symbol_is_spelled
