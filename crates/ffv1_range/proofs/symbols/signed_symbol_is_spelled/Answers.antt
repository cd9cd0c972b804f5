use Rattle.ffv1_range.proofs.Spelling.{signed_symbol_is_spelled}
use Rattle.ffv1_range.proofs.symbols.signed_symbol_is_spelled.Goals as goal

pub returns : goal.returns
returns c = signed_symbol_is_spelled
