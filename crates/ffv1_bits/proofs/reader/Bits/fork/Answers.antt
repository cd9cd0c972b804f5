use Rattle.std.proofs.Common.{rules}
use Rattle.ffv1_bits.proofs.reader.Bits.fork.Goals as goal

pub returns : goal.returns
returns c = search rules
