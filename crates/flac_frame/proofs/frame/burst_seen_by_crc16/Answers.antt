use Rattle.flac_frame.proofs.Checks.{burst}
use Rattle.flac_frame.proofs.frame.burst_seen_by_crc16.Goals as goal

pub returns : goal.returns
returns c = burst
