use Rattle.ffv1_weave.proofs.OneBit.{set_inverted}
use Rattle.ffv1_weave.proofs.inversions.invert.Goals as goal

pub returns : goal.returns
returns c = set_inverted c.args.bytes.now c.args.bit c.requires
