use Rattle.std.proofs.Common.{◌≡◌, ◌-◌}
use Rattle.ffv1_plane.specs.Inner.Orders.{turn_count, lines_left}
use Rattle.ffv1_plane.proofs.coded_order.CodedOrderIterator.next.Given as goal

abbrev pub invariant-loop-self : goal.invariant-loop-self
invariant-loop-self l = record {
  left : lines_left l.self ≡ lines_left l.fn.self;
}

abbrev pub decreases-loop-self : goal.decreases-loop-self
decreases-loop-self l = turn_count l.self.is_rgb l.self.sizes.now - l.self.turn
