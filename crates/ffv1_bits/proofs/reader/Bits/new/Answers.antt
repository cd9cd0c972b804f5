use Rattle.std.proofs.Common.{rules}
use Rattle.ffv1_bits.proofs.reader.Bits.new.Goals as goal

pub returns-clause-place : goal.returns-clause-place
returns-clause-place c = search rules
