use Rattle.std.proofs.Common.{rules}
use Rattle.ffv1_range.proofs.tables.TableSet.entry.Goals as goal

pub returns-then-index-eq128 : goal.returns-then-index-eq128
returns-then-index-eq128 c = search rules
