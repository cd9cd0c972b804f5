use Rattle.matroska.proofs.SizeSteps.{no_equal_sizes}
use Rattle.matroska.proofs.sizes.fixed_sizes.Goals as goal

pub returns-then-bytes-count-ne0 : goal.returns-then-bytes-count-ne0
returns-then-bytes-count-ne0 c = no_equal_sizes c.args.count c.args.bytes.now c.if-bytes-count-ne0.true
