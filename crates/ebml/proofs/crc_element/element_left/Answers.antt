use Rattle.ebml.proofs.CrcElements.{left_made}
use Rattle.ebml.proofs.crc_element.element_left.Goals as goal

pub returns : goal.returns
returns c =
    left_made c.args.element.now c.split_at.result.0.now c.split_at.result.1.now c.min.result c.min-2.result c.advanced.result c.advanced-2.result
    c.reverse_bits.result c.min.ensures c.split_at.ensures.front c.split_at.ensures.back c.min-2.ensures c.advanced.ensures c.advanced-2.ensures c.reverse_bits.ensures
