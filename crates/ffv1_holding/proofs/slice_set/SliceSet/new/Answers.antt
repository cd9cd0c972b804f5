use Rattle.std.proofs.Common.{rules}
use Rattle.ffv1_holding.proofs.slice_set.SliceSet.new.Goals as goal

pub returns : goal.returns
returns c = search rules
