use Rattle.ebml.proofs.CrcElements.{burst_seen}
use Rattle.ebml.proofs.crc_element.burst_seen_by_crc32.Goals as goal

pub returns : goal.returns
returns c = burst_seen
