use Rattle.std.proofs.Common.{rules}
use Rattle.ffv1_bits.proofs.parity.passes.Goals as goal

pub returns-then-bytes-ge8 : goal.returns-then-bytes-ge8
returns-then-bytes-ge8 c = search rules
