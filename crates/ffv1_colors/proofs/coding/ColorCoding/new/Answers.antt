use Rattle.ffv1_colors.proofs.Back.{offset_is}
use Rattle.ffv1_colors.proofs.coding.ColorCoding.new.Goals as goal

pub invariant_of-result : goal.invariant_of-result
invariant_of-result c = offset_is c.args.depth c.requires.most
