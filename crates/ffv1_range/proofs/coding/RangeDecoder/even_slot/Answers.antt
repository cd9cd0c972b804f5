use Rattle.std.proofs.Common.{arith}
use Rattle.ffv1_range.proofs.Slots.{slot_read, slot_keeps}
use Rattle.ffv1_range.proofs.coding.RangeDecoder.even_slot.Goals as goal

pub returns-clause-read : goal.returns-clause-read
returns-clause-read c =
    slot_read c.args.self.now c.even_bit.new.self c.args.states.now c.args.slot c.even_bit.new.state c.even_bit.result c.even_bit.ensures.read

pub returns-clause-states : goal.returns-clause-states
returns-clause-states c =
    slot_keeps c.args.self.now c.even_bit.new.self c.args.states.now c.args.slot c.even_bit.new.state c.even_bit.result c.even_bit.ensures.read c.even_bit.ensures.unchanged
    (omega (arith, c.requires))
