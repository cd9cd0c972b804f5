use Rattle.std.proofs.Common.{arith}
use Rattle.ffv1_range.proofs.Slots.{slot_read, slot_keeps}
use Rattle.ffv1_range.proofs.coding.RangeDecoder.slot.Goals as goal

pub returns-clause-read : goal.returns-clause-read
returns-clause-read c =
    slot_read c.args.self.now c.bit.new.self c.args.states.now c.args.slot c.bit.new.state c.bit.result c.bit.ensures.read

pub returns-clause-states : goal.returns-clause-states
returns-clause-states c =
    slot_keeps c.args.self.now c.bit.new.self c.args.states.now c.args.slot c.bit.new.state c.bit.result c.bit.ensures.read c.bit.ensures.unchanged
    (omega (arith, c.requires))
