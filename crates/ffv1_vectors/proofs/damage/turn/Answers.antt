use Rattle.ffv1_vectors.proofs.OneBit.{bit_flipped}
use Rattle.ffv1_vectors.proofs.damage.turn.Goals as goal

pub returns : goal.returns
returns c = bit_flipped c.args.bytes.now c.args.byte c.args.bit c.requires.byte c.requires.bit
