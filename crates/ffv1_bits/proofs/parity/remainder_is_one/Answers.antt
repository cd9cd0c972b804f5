use Rattle.ffv1_bits.proofs.Multiples.{one_remainder}
use Rattle.ffv1_bits.proofs.parity.remainder_is_one.Goals as goal

pub returns : goal.returns
returns c = one_remainder
