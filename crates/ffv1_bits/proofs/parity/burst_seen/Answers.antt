use Rattle.ffv1_bits.proofs.Burst.{burst}
use Rattle.ffv1_bits.proofs.parity.burst_seen.Goals as goal

pub returns : goal.returns
returns c = burst
