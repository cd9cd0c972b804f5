use Rattle.std.proofs.Common.{[], refl}
use Rattle.ffv1_bits.specs.Bits.{bits_of}
use Rattle.ffv1_bits.specs.Parity.{divided, remainder_of, polynomial_of}
use Rattle.ffv1_bits.proofs.parity.remainder.Goals as goal

pub returns : goal.returns
unfolding bits_of remainder_of divided polynomial_of
returns c = c.remainder_after.ensures [] refl
