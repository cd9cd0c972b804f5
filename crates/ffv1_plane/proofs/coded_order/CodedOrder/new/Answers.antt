use Rattle.ffv1_plane.proofs.Orders.{all_left}
use Rattle.ffv1_plane.proofs.coded_order.CodedOrder.new.Goals as goal

pub returns : goal.returns
returns c = all_left c.args.is_rgb c.args.sizes.now
